use Rattle.std.proofs.Common.{◌≡◌, true, slice_index_or, take}
use Rattle.std.specs.List.{filter}
use Rattle.vx_flow.specs.declared.graph.Edge.{Edge}
use Rattle.vx_replace.proofs.joins.edges_into.Given as goal

abbrev pub invariant-loop-edge : goal.invariant-loop-edge
invariant-loop-edge l = l.into ≡ filter (λ (e : Edge). slice_index_or l.marks e.to true) (take l.edge-index l.edges)
