-- each is marked, or is left
use Rattle.std.proofs.Common.{drop}
use Rattle.vx_calls.specs.Slots.{Marking, in_slots}
use Rattle.vx_calls.proofs.frames.mark_slotted.Given as goal

abbrev pub invariant-loop-value : goal.invariant-loop-value
invariant-loop-value l = Marking (in_slots 0 l.kept) (in_slots l.value (drop l.value l.kept)) l.initial.marks.items l.marks.items
