use Rattle.std.proofs.Common.{◌≡◌, ◌++◌, length, not}
use Rattle.std.specs.List.{filter}
use Rattle.vx_mixed.specs.MovedEdges.{follows}
use Rattle.vx_replace.proofs.edges.edges_beside.Given as goal

abbrev pub invariant-run : goal.invariant-run
invariant-run l = filter (λ e. not (follows l.before e)) l.edges ≡ l.beside.items ++ filter (λ e. not (follows l.before e)) l.rest

abbrev pub decreases-run : goal.decreases-run
decreases-run l = length l.rest
