use Rattle.std.proofs.Common.{◌≡◌, take}
use Rattle.std.specs.Prelude.{◌==◌, ◌&&◌, not}
use Rattle.std.specs.List.{filter}
use Rattle.vx_flow.specs.declared.graph.Edge.{Edge}
use Rattle.vx_mixed.specs.FromGraph.{same_edge}
use Rattle.vx_replace.proofs.joins.other_edges.Given as goal

abbrev pub invariant-loop-edge : goal.invariant-loop-edge
invariant-loop-edge l = l.others ≡ filter (λ (e : Edge). (e.to == l.apart.to) && not (same_edge e l.apart)) (take l.edge-index l.edges)
