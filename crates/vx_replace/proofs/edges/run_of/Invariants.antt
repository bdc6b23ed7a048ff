-- the edges so far stay
use Rattle.std.proofs.Common.{◌≡◌, ◌++◌, drop, not, take}
use Rattle.std.specs.List.{filter}
use Rattle.vx_mixed.specs.MovedEdges.{follows}
use Rattle.vx_replace.proofs.edges.run_of.Given as goal

abbrev pub invariant-loop-index : goal.invariant-loop-index
invariant-loop-index l = filter (λ e. not (follows l.before e)) l.edges ≡ take l.index l.edges ++ filter (λ e. not (follows l.before e)) (drop l.index l.edges)
