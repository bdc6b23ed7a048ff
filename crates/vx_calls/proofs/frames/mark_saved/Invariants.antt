-- each is marked, or is left
use Rattle.std.proofs.Common.{drop}
use Rattle.vx_calls.specs.Slots.{Marking, joined}
use Rattle.vx_calls.proofs.frames.mark_saved.Given as goal

abbrev pub invariant-loop-values : goal.invariant-loop-values
invariant-loop-values l = Marking (joined l.saved) (joined (drop l.values-index l.saved)) l.initial.marks.items l.marks.items
