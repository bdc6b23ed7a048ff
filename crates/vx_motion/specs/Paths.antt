-- Paths of blocks that enter no header can be traced, in every graph of blocks and regions to which replacements lead.
use Rattle.std.specs.Prelude.{◌≡◌, ◌≢◌, ℕ, Some, List, [], drop, slice_get}
use Rattle.vx_flow.specs.declared.graph.Block.{Block}
use Rattle.vx_flow.specs.declared.graph.Edge.{Edge}
use Rattle.vx_flow.specs.declared.graph.Graph.{Graph}
use Rattle.vx_flow.specs.Effects.{IsIn}
use Rattle.vx_mixed.specs.declared.region.Node.TheVariants.{Unused}
use Rattle.vx_mixed.specs.declared.mixed.MixedGraph.{MixedGraph}
use Rattle.vx_mixed.specs.CanReplace.{CanReplace}
use Rattle.vx_mixed.specs.Edges.{IsEdge}
use Rattle.vx_mixed.specs.FromGraph.{FromGraph}
use Rattle.vx_mixed.specs.declared.replacement.Replacement.{Replacement}
use Rattle.vx_mixed.specs.Next.{next_mixed}
use Rattle.vx_mixed.specs.Settled.{NoTwice}
use Rattle.vx_mixed.specs.TraceOf.{CanTrace, EndsWithCall, inner_edges}
use Rattle.vx_mixed.specs.Valid.{NoCritical, Valid}
use Rattle.vx_motion.specs.Cycles.{EachCycleHas}

-- distinct blocks, each but the last followed by the next one along an edge that does not go to a header
pub record Path (edges : List Edge) (headers blocks : List ℕ) : Type 0 where
  pub once : NoTwice blocks
  pub follow : (e : Edge) → IsIn e (inner_edges blocks) → IsIn e edges
  pub enters : (e : Edge) → IsIn e (inner_edges blocks) → IsIn e.to headers → ⊥

-- Other edges between the blocks of a path go to its first.
abbrev pub PathsMeetFirst : Type 0
PathsMeetFirst =
    (edges : List Edge) (headers blocks : List ℕ) → NoCritical (λ e. IsIn e edges) → EachCycleHas (λ e. IsIn e edges) (λ h. IsIn h headers) → Path edges headers blocks →
    (e : Edge) → IsIn e edges → IsIn e.from blocks → IsIn e.to (drop 1 blocks) → IsIn e (inner_edges blocks)

-- an edge between two blocks that are in no region
pub record UnusedEdge (m : MixedGraph) (e : Edge) : Type 0 where
  pub is_edge : IsEdge m e
  pub begins : (block : Block) × (slice_get m.nodes e.from ≡ Some (Unused block))
  pub arrives : (block : Block) × (slice_get m.nodes e.to ≡ Some (Unused block))

-- every cycle of blocks in no region has a header of the function's graph
abbrev pub IsHeaded : MixedGraph → Type 0
IsHeaded m = EachCycleHas (UnusedEdge m) (λ h. IsIn h m.headers)

-- what picking gives: blocks in no region, each once, along edges that go to no header and are no calls
pub record IsPath (m : MixedGraph) (blocks : List ℕ) : Type 0 where
  pub some : blocks ≢ []
  pub unused : (b : ℕ) → IsIn b blocks → (block : Block) × (slice_get m.nodes b ≡ Some (Unused block))
  pub once : NoTwice blocks
  pub follow : (e : Edge) → IsIn e (inner_edges blocks) → IsEdge m e
  pub enters : (e : Edge) → IsIn e (inner_edges blocks) → IsIn e.to m.headers → ⊥
  pub no_call : (e : Edge) (block : Block) → IsIn e (inner_edges blocks) → slice_get m.nodes e.from ≡ Some (Unused block) → EndsWithCall block.exit → ⊥

-- It can be traced.
abbrev pub PathsCanBeTraced : Type 0
PathsCanBeTraced = (m : MixedGraph) (blocks : List ℕ) → Valid m → IsHeaded m → IsPath m blocks → CanTrace m blocks

-- A graph of blocks and regions begins so.
abbrev pub BeginsHeaded : Type 0
BeginsHeaded = (graph : Graph) (m : MixedGraph) → FromGraph graph m → IsHeaded m

-- And stays so with every replacement.
abbrev pub StaysHeaded : Type 0
StaysHeaded = (m : MixedGraph) (r : Replacement) → Valid m → CanReplace m r → IsHeaded m → IsHeaded (next_mixed m r)
