-- The entrances that a graph and the one after a replacement share, and the edges that arrive at them. An entrance is a block
-- or a word of a region that stands outside of the trace, the start of the trace, or an edge that joins it. A block that is
-- made at a split is none, nor is a join behind the block that is made on its edge.
use Rattle.std.specs.Prelude.{◌==◌, ◌&&◌, ◌||◌, ◌-◌, not, ℕ, Bool, false, if◌then◌else◌, nat_lt, Option, Some, None, List, length, drop, slice_get}
use Rattle.std.specs.List.{list_any}
use Rattle.std.specs.Option.{option_map}
use Rattle.vx_flow.specs.declared.graph.Edge.{Edge}
use Rattle.vx_flow.specs.declared.trace.TraceOp.{TraceOp}
use Rattle.vx_flow.specs.declared.trace.Join.{Join}
use Rattle.vx_flow.specs.Walk.{edge}
use Rattle.vx_mixed.specs.declared.region.Made.{Made}
use Rattle.vx_mixed.specs.declared.mixed.MixedGraph.{MixedGraph}
use Rattle.vx_mixed.specs.FromGraph.{same_edge}
use Rattle.vx_mixed.specs.Next.{Replacement, new_end, is_split_edge}
use Rattle.vx_mixed.specs.TraceOf.{inner_edges}
use Rattle.vx_mixed.specs.Valid.{is_entrance}

-- in the old graph every edge but those arrives at an entrance
abbrev pub meet_old : Replacement → ℕ → ℕ → Bool
meet_old r from to = not (list_any (λ e. same_edge e (edge from to)) (inner_edges r.trace.blocks))

-- the edge on which block b is made, where the first that is made has number n
abbrev pub edge_of_made : ℕ → List Made → ℕ → Option Edge
edge_of_made n made b = if nat_lt b n then None else option_map (λ (x : Made). x.edge) (slice_get made (b - n))

abbrev pub at_split : List TraceOp → Option Edge → Bool
at_split ops None = false
at_split ops (Some e) = is_split_edge ops e

abbrev pub at_join : List TraceOp → Option Edge → Bool
at_join ops None = false
at_join ops (Some e) = not (is_split_edge ops e)

-- in the new graph every edge but those to a block made at a split, and from one made at a join
abbrev pub meet_new : MixedGraph → Replacement → ℕ → ℕ → Bool
meet_new m r from to =
    not (at_split r.trace.ops (edge_of_made (length m.nodes) r.made to)) && not (at_join r.trace.ops (edge_of_made (length m.nodes) r.made from))

-- an entrance outside of the trace, or its start
abbrev pub stays : MixedGraph → Replacement → ℕ → Bool
stays m r b = is_entrance (slice_get m.nodes b) && not (list_any (λ c. c == b) (drop 1 r.trace.blocks))

-- b' is where an edge goes that joins the trace at block b
abbrev pub joined_at : (ℕ → ℕ → ℕ) → List Join → ℕ → ℕ → Bool
joined_at to joins b b' = list_any (λ (j : Join). (j.block == b) && list_any (λ (e : Edge). to e.from e.to == b') j.edges) joins

-- entrance b of the old graph is entrance b' of the new one
abbrev pub pairs : MixedGraph → Replacement → ℕ → ℕ → Bool
pairs m r b b' = (stays m r b && (b == b')) || joined_at (new_end m r.made) r.trace.joins b b'
