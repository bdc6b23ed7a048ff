-- The trace of some blocks that follow each other, each of them in no region.
use Rattle.std.specs.Prelude.{◌≡◌, ◌≢◌, ◌==◌, ◌+◌, ◌↔◌, ◌&&◌, not, drop, ℕ, Bool, true, false, if◌then◌else◌, Option, Some, None, List, [], ◌∷◌, ◌++◌, length, map, replicate, slice_get}
use Rattle.std.specs.List.{filter}
use Rattle.vx_flow.specs.declared.graph.Exit.{Exit}
use Rattle.vx_flow.specs.declared.graph.Exit.TheVariants.{Goto, Split as Branches, Call, Return, Ends}
use Rattle.vx_flow.specs.declared.graph.Block.{Block}
use Rattle.vx_flow.specs.declared.graph.Edge.{Edge}
use Rattle.vx_flow.specs.declared.trace.TraceOp.{TraceOp}
use Rattle.vx_flow.specs.declared.trace.TraceOp.TheVariants.{Plain, Split}
use Rattle.vx_flow.specs.declared.trace.Join.{Join}
use Rattle.vx_flow.specs.declared.trace.Trace.{Trace}
use Rattle.vx_flow.specs.Effects.{IsIn}
use Rattle.vx_flow.specs.Walk.{edge}
use Rattle.vx_mixed.specs.declared.region.Node.{Node}
use Rattle.vx_mixed.specs.declared.region.Node.TheVariants.{Unused}
use Rattle.vx_mixed.specs.declared.region.Origin.{Origin}
use Rattle.vx_mixed.specs.declared.mixed.MixedGraph.{MixedGraph}
use Rattle.vx_mixed.specs.Live.{Live}
use Rattle.vx_mixed.specs.Edges.{IsEdge, EdgesOf}
use Rattle.vx_mixed.specs.Settled.{NoTwice}
use Rattle.vx_mixed.specs.FromGraph.{same_edge}

abbrev pub block_or_none : Option Node → Block
block_or_none (Some (Unused block)) = block
block_or_none _ = record { ops = []; exit = Goto 0 }

abbrev pub block_at : MixedGraph → ℕ → Block
block_at m b = block_or_none (slice_get m.nodes b)

-- the edges by which the blocks of a trace follow each other
abbrev pub inner_edges : List ℕ → List Edge
inner_edges [] = []
inner_edges (b ∷ []) = []
inner_edges (b ∷ c ∷ blocks) = edge b c ∷ inner_edges (c ∷ blocks)

abbrev pub EndsWithCall : Exit → Type 0
EndsWithCall (Call g arguments result next) = Unit {0}
EndsWithCall (Goto c) = ⊥
EndsWithCall (Branches p x y) = ⊥
EndsWithCall (Return x) = ⊥
EndsWithCall (Ends k) = ⊥

-- Blocks of which a trace can be made: in no region, each once, each but the last followed by the next one along an edge that
-- is no call. Other edges between them go to the first alone.
pub record CanTrace (m : MixedGraph) (blocks : List ℕ) : Type 0 where
  pub some : blocks ≢ []
  pub unused : (b : ℕ) → IsIn b blocks → (block : Block) × (slice_get m.nodes b ≡ Some (Unused block))
  pub once : NoTwice blocks
  pub follow : (e : Edge) → IsIn e (inner_edges blocks) → IsEdge m e
  pub no_call : (e : Edge) (block : Block) → IsIn e (inner_edges blocks) → slice_get m.nodes e.from ≡ Some (Unused block) → EndsWithCall block.exit → ⊥
  pub back : (e : Edge) → IsEdge m e → IsIn e.from blocks → IsIn e.to (drop 1 blocks) → IsIn e (inner_edges blocks)

-- the two-way exit of block b inside a trace that goes on with block c, where `live` tells what is live at a block
abbrev pub split_between : (ℕ → List ℕ) → ℕ → Exit → ℕ → List TraceOp
split_between live b (Branches p x y) c = if x == c then Split p false (edge b y) (live y) ∷ [] else Split p true (edge b x) (live x) ∷ []
split_between live b exit c = []

abbrev pub split_behind : (ℕ → List ℕ) → ℕ → Exit → List ℕ → List TraceOp
split_behind live b exit [] = []
split_behind live b exit (c ∷ blocks) = split_between live b exit c

-- the operations of a block in a trace, where these blocks follow
abbrev pub block_ops : MixedGraph → (ℕ → List ℕ) → ℕ → List ℕ → List TraceOp
block_ops m live b blocks = map Plain (block_at m b).ops ++ split_behind live b (block_at m b).exit blocks

abbrev pub trace_ops : MixedGraph → (ℕ → List ℕ) → List ℕ → List TraceOp
trace_ops m live [] = []
trace_ops m live (b ∷ blocks) = block_ops m live b blocks ++ trace_ops m live blocks

-- the clusters of operations that are copies; a split has none

abbrev pub clusters_of : ℕ → Option (Option Origin) → List (Option ℕ)
clusters_of n (Some (Some origin)) = map Some origin.clusters
clusters_of n _ = replicate n None

abbrev pub trace_fixed : MixedGraph → (ℕ → List ℕ) → List ℕ → List (Option ℕ)
trace_fixed m live [] = []
trace_fixed m live (b ∷ blocks) =
    clusters_of (length (block_at m b).ops) (slice_get m.origins b) ++ (replicate (length (split_behind live b (block_at m b).exit blocks)) None ++ trace_fixed m live blocks)

-- joins: blocks to which other edges lead than the one from the block before

abbrev pub joined : ℕ → ℕ → List Edge → List Join
joined place b [] = []
joined place b (e ∷ es) = record { place = place; block = b; edges = e ∷ es } ∷ []

-- the joins of the blocks behind `before`, above which so many operations stand
abbrev pub joins_behind : MixedGraph → (ℕ → List ℕ) → List Edge → (before place : ℕ) → List ℕ → List Join
joins_behind m live edges before place [] = []
joins_behind m live edges before place (b ∷ blocks) =
    joined place b (filter (λ (e : Edge). (e.to == b) && not (same_edge e (edge before b))) edges)
    ++ joins_behind m live edges b (place + length (block_ops m live b blocks)) blocks

abbrev pub trace_joins : MixedGraph → (ℕ → List ℕ) → List Edge → List ℕ → List Join
trace_joins m live edges [] = []
trace_joins m live edges (b ∷ blocks) = joins_behind m live edges b (length (block_ops m live b blocks)) blocks

pub record IsTraceOf (m : MixedGraph) (blocks : List ℕ) (trace : Trace) : Type 0 where
  pub edges : List Edge
  pub all_edges : EdgesOf m edges
  pub live : ℕ → List ℕ
  pub function : trace.function ≡ m.function
  pub blocks_are : trace.blocks ≡ blocks
  pub ops : trace.ops ≡ trace_ops m live blocks
  pub lives : (p v : ℕ) (y : Bool) (e : Edge) (vs : List ℕ) → IsIn (Split p y e vs) trace.ops → (IsIn v vs ↔ Live m e.to v)
  pub fixed : trace.fixed ≡ trace_fixed m live blocks
  pub joins : trace.joins ≡ trace_joins m live edges blocks
  pub values : trace.values ≡ length m.banks
  pub arrays : trace.arrays ≡ m.arrays
