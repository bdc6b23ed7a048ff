-- How the lists of a trace are put together: block by block, with the edges that lead to each block.
use Rattle.std.specs.Prelude.{◌≡◌, ◌↔◌, ◌==◌, ℕ, Bool, true, false, if◌then◌else◌, Option, None, List, [], ◌∷◌, ◌++◌, length, replicate, slice_get, slice_set}
use Rattle.std.specs.List.{filter}
use Rattle.vx_flow.specs.declared.graph.Edge.{Edge}
use Rattle.vx_flow.specs.declared.trace.TraceOp.TheVariants.{Split}
use Rattle.vx_flow.specs.Effects.{IsIn}
use Rattle.vx_mixed.specs.declared.mixed.MixedGraph.{MixedGraph}
use Rattle.vx_mixed.specs.Live.{Live}
use Rattle.vx_mixed.specs.TraceOf.{block_at, clusters_of, split_behind, trace_ops}

-- the clusters of the operations of a block, where these blocks follow
abbrev pub block_fixed : MixedGraph → (ℕ → List ℕ) → ℕ → List ℕ → List (Option ℕ)
block_fixed m live b blocks = clusters_of (length (block_at m b).ops) (slice_get m.origins b) ++ replicate (length (split_behind live b (block_at m b).exit blocks)) None

-- the second list has the edges that lead to these blocks, in their order
abbrev pub Entering : List Edge → (blocks : List ℕ) → List Edge → Type 0
Entering edges blocks entering = (c : ℕ) → IsIn c blocks → filter (λ (e : Edge). e.to == c) entering ≡ filter (λ (e : Edge). e.to == c) edges

-- a mark put at each of these blocks
abbrev pub marked : List ℕ → List Bool → List Bool
marked [] marks = marks
marked (b ∷ blocks) marks = marked blocks (slice_set marks b true)

-- whether one of the blocks has a split in their trace
abbrev pub has_split : MixedGraph → List ℕ → Bool
has_split m [] = false
has_split m (b ∷ blocks) = if length (split_behind (λ c. []) b (block_at m b).exit blocks) == 0 then has_split m blocks else true

-- `live` tells what is live where the splits of the trace leave
abbrev pub LiveAtSplits : MixedGraph → List ℕ → (ℕ → List ℕ) → Type 0
LiveAtSplits m blocks live = (p v : ℕ) (y : Bool) (e : Edge) (vs : List ℕ) → IsIn (Split p y e vs) (trace_ops m live blocks) → (IsIn v vs ↔ Live m e.to v)
