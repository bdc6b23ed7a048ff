use Rattle.std.proofs.Common.{drop}
use Rattle.vx_flow.proofs.IndexSteps.{Listing}
use Rattle.vx_flow.proofs.route_index.list_reads.Given as goal

abbrev pub invariant-loop-touch : goal.invariant-loop-touch
invariant-loop-touch l = Listing l.touches l.index l.mark l.initial.rows l.rows l.marks.items (drop l.touch-index l.touches)
