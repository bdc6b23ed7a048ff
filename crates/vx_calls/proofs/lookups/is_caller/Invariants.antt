-- no word so far is a call
use Rattle.std.proofs.Common.{◌≡◌, false, take}
use Rattle.std.specs.List.{list_any}
use Rattle.vx_slots.specs.Seen.{seen}
use Rattle.vx_target.specs.Target.{is_call_word}
use Rattle.vx_calls.proofs.lookups.is_caller.Given as goal

abbrev pub invariant-loop-word : goal.invariant-loop-word
invariant-loop-word l = list_any is_call_word (take l.word-index ((seen l.fn.whole).layout l.fn.function).words) ≡ false
