-- each is marked, or is left
use Rattle.std.proofs.Common.{drop}
use Rattle.vx_calls.specs.Slots.{Marking}
use Rattle.vx_calls.proofs.frames.mark_all.Given as goal

abbrev pub invariant-loop-value : goal.invariant-loop-value
invariant-loop-value l = Marking l.values (drop l.value-index l.values) l.initial.marks.items l.marks.items
