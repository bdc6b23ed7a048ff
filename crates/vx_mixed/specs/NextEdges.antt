-- The edges of a graph after a replacement: those that were not inside the trace, each to its new end, and one from each block
-- that was made.
use Rattle.std.specs.Prelude.{◌≡◌, ◌+◌, ◌↔◌, ℕ, Some, length, slice_get}
use Rattle.vx_flow.specs.declared.graph.Edge.{Edge}
use Rattle.vx_flow.specs.Effects.{IsIn}
use Rattle.vx_flow.specs.Walk.{edge}
use Rattle.vx_mixed.specs.declared.region.Made.{Made}
use Rattle.vx_mixed.specs.declared.mixed.MixedGraph.{MixedGraph}
use Rattle.vx_mixed.specs.CanReplace.{CanReplace}
use Rattle.vx_mixed.specs.Edges.{IsEdge}
use Rattle.vx_mixed.specs.Next.{Replacement, new_end, next_mixed}
use Rattle.vx_mixed.specs.TraceOf.{inner_edges}
use Rattle.vx_mixed.specs.Valid.{Valid}

pub data IsNextEdge (m : MixedGraph) (r : Replacement) (e : Edge) : Type 0 where
  kept : (a b : ℕ) → IsEdge m (edge a b) → (IsIn (edge a b) (inner_edges r.trace.blocks) → ⊥) → e ≡ edge a (new_end m r.made a b) → IsNextEdge m r e
  from_made : (i : ℕ) (x : Made) → slice_get r.made i ≡ Some x → e ≡ edge (length m.nodes + i) x.edge.to → IsNextEdge m r e

-- These are its edges.
abbrev pub EdgesAfter : Type 0
EdgesAfter = (m : MixedGraph) (r : Replacement) → Valid m → CanReplace m r → (e : Edge) → IsEdge (next_mixed m r) e ↔ IsNextEdge m r e
