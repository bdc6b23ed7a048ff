use Rattle.std.proofs.Common.{drop}
use Rattle.vx_flow.proofs.IndexSteps.{Entered}
use Rattle.vx_flow.proofs.route_index.enter.Given as goal

abbrev pub invariant-loop-node : goal.invariant-loop-node
invariant-loop-node l = Entered l.to l.index l.initial.rows l.rows (drop l.node-index l.to)
