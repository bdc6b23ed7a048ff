-- The edges of a graph of blocks and regions, ascending by their numbers.
use Rattle.std.specs.Prelude.{◌≡◌, ◌<◌, ◌⊎◌, ◌↔◌, ◌+◌, ℕ, Bool, Some, List, [], ◌∷◌, ◌++◌, map, slice_get}
use Rattle.vx_flow.specs.declared.graph.Block.{Block}
use Rattle.vx_flow.specs.declared.graph.Edge.{Edge}
use Rattle.vx_flow.specs.Effects.{IsIn}
use Rattle.vx_flow.specs.Sound.{targets_of}
use Rattle.vx_flow.specs.Walk.{edge, successors_of}
use Rattle.vx_mixed.specs.declared.region.Item.{Item}
use Rattle.vx_mixed.specs.declared.region.Item.TheVariants.{Split}
use Rattle.vx_mixed.specs.declared.region.Region.{Region}
use Rattle.vx_mixed.specs.declared.region.Node.TheVariants.{Unused}
use Rattle.vx_mixed.specs.declared.mixed.MixedGraph.{MixedGraph}

abbrev pub Before : Edge → Edge → Type 0
Before e f = (e.from < f.from) ⊎ ((e.from ≡ f.from) × (e.to < f.to))

abbrev pub Ascending : List Edge → Type 0
Ascending [] = Unit {0}
Ascending (e ∷ es) = ((f : Edge) → IsIn f es → Before e f) × Ascending es

-- an edge of a block that is in no region, or one by which a region is left
pub data IsEdge (m : MixedGraph) (e : Edge) : Type 0 where
  of_block : {block : Block} → slice_get m.nodes e.from ≡ Some (Unused block) → IsIn e.to (targets_of block.exit) → IsEdge m e
  of_split : (r j p d : ℕ) (y : Bool) (g : Region) (word : List Item) → slice_get m.regions r ≡ Some g → slice_get g.words j ≡ Some word → IsIn (Split p y e d) word → IsEdge m e
  of_last : (r : ℕ) (g : Region) → slice_get m.regions r ≡ Some g → e.from ≡ g.from → IsIn e.to (targets_of g.last) → IsEdge m e

-- these are the edges, each once, ascending
pub record EdgesOf (m : MixedGraph) (edges : List Edge) : Type 0 where
  pub ascending : Ascending edges
  pub exact : (e : Edge) → IsIn e edges ↔ IsEdge m e

-- the edges of the blocks from number b on
abbrev pub edges_from : ℕ → List Block → List Edge
edges_from b [] = []
edges_from b (block ∷ blocks) = map (edge b) (successors_of block.exit) ++ edges_from (b + 1) blocks
