use Rattle.vx_loops.specs.Path.{Way}
use Rattle.vx_loops.proofs.loops.follow.Given as goal

abbrev pub invariant-loop : goal.invariant-loop
invariant-loop l = Way l.blocks l.first l.last l.spine.items
