-- each operation so far is sound
use Rattle.std.proofs.Common.{◌≡◌, true, take}
use Rattle.std.specs.List.{list_all}
use Rattle.vx_isa.specs.Sound.{is_sound_operation}
use Rattle.vx_isa.proofs.soundness.are_sound_operations.Given as goal

abbrev pub invariant-loop-op : goal.invariant-loop-op
invariant-loop-op l = list_all (is_sound_operation l.words l.texts) (take l.op-index l.ops) ≡ true
