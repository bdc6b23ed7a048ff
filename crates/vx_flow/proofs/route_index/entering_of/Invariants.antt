use Rattle.vx_flow.proofs.IndexSteps.{EnteredBelow}
use Rattle.vx_flow.proofs.route_index.entering_of.Given as goal

abbrev pub invariant-loop-index : goal.invariant-loop-index
invariant-loop-index l = EnteredBelow l.routes l.rows l.index
