use Rattle.std.proofs.Common.{◌≡◌, ◌+◌, ◌++◌, drop}
use Rattle.vx_mixed.specs.MovedEdges.{made_edges}
use Rattle.vx_replace.proofs.edges.push_made_edges.Given as goal

abbrev pub invariant-loop-index : goal.invariant-loop-index
invariant-loop-index l = l.edges.items ++ made_edges (l.first + l.index) (drop l.index l.made) ≡ l.initial.edges.items ++ made_edges l.first l.made
