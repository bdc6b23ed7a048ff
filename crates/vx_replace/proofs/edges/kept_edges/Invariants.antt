use Rattle.std.proofs.Common.{◌≡◌, take}
use Rattle.vx_mixed.specs.MovedEdges.{kept_edges}
use Rattle.vx_replace.proofs.edges.kept_edges.Given as goal

abbrev pub invariant-loop-edge : goal.invariant-loop-edge
invariant-loop-edge l = l.kept.items ≡ kept_edges l.graph l.replacement (take l.edge-index l.edges)
