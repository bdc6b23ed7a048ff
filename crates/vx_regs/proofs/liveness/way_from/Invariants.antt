use Rattle.std.proofs.Common.{length}
use Rattle.vx_regs.proofs.WaySteps.{Walked}
use Rattle.vx_regs.proofs.liveness.way_from.Given as goal

abbrev pub invariant-way : goal.invariant-way
invariant-way l = Walked l.nodes.numbers l.place l.words l.to l.touches l.next l.rest

abbrev pub decreases-way : goal.decreases-way
decreases-way l = length l.rest
