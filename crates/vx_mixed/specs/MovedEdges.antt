-- The edges after a replacement as lists: those that are kept, each to its new end, and those of the blocks that are made. Which
-- edges these are NextEdges says.
use Rattle.std.specs.Prelude.{◌+◌, ◌*◌, ◌^◌, ℕ, Bool, not, Option, Some, None, List, [], ◌∷◌, map, slice_index_or, slice_set}
use Rattle.std.specs.List.{filter, list_any}
use Rattle.vx_flow.specs.declared.graph.Edge.{Edge}
use Rattle.vx_flow.specs.Walk.{edge}
use Rattle.vx_mixed.specs.declared.region.Made.{Made}
use Rattle.vx_mixed.specs.declared.mixed.MixedGraph.{MixedGraph}
use Rattle.vx_mixed.specs.FromGraph.{is_some_of, same_edge}
use Rattle.vx_mixed.specs.Next.{Replacement, new_end}
use Rattle.vx_mixed.specs.TraceOf.{inner_edges}

abbrev pub is_inner : List ℕ → Edge → Bool
is_inner blocks e = list_any (λ f. same_edge f e) (inner_edges blocks)

-- for each number the block that stands before that block in a trace
abbrev pub with_before : ℕ → List ℕ → List (Option ℕ) → List (Option ℕ)
with_before b [] rows = rows
with_before b (c ∷ blocks) rows = with_before c blocks (slice_set rows c (Some b))

abbrev pub before_each : List ℕ → List (Option ℕ) → List (Option ℕ)
before_each [] rows = rows
before_each (b ∷ blocks) rows = with_before b blocks rows

-- the edge goes from the block that stands there
abbrev pub follows : List (Option ℕ) → Edge → Bool
follows rows e = is_some_of (slice_index_or rows e.to None) e.from

abbrev pub moved : MixedGraph → List Made → Edge → Edge
moved m made e = edge e.from (new_end m made e.from e.to)

abbrev pub kept_edges : MixedGraph → Replacement → List Edge → List Edge
kept_edges m r edges = map (moved m r.made) (filter (λ e. not (is_inner r.trace.blocks e)) edges)

-- where those from b on are made
abbrev pub made_edges : ℕ → List Made → List Edge
made_edges b [] = []
made_edges b (x ∷ xs) = edge b x.edge.to ∷ made_edges (b + 1) xs

-- edges of blocks below 2 ^ 32 ascend as these numbers do
abbrev pub edge_key : Edge → ℕ
edge_key e = e.from * 2 ^ 32 + e.to
