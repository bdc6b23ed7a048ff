-- What holds of a function's graph of blocks and regions at all times.
use Rattle.std.specs.Prelude.{◌≡◌, ◌≢◌, ◌<◌, ◌≤◌, ◌⊎◌, ◌*◌, ◌^◌, ◌++◌, ℕ, Bool, true, false, Option, Some, None, List, length, slice_get}
use Rattle.vx_flow.specs.declared.graph.Bank.TheVariants.{Branch}
use Rattle.vx_flow.specs.declared.graph.Block.{Block}
use Rattle.vx_flow.specs.declared.graph.Edge.{Edge}
use Rattle.vx_flow.specs.declared.graph.Exit.{Exit}
use Rattle.vx_flow.specs.declared.graph.Exit.TheVariants.{Goto, Split as Branches, Call, Return, Ends}
use Rattle.vx_flow.specs.declared.graph.Graph.{Graph}
use Rattle.vx_flow.specs.declared.graph.Op.{Op}
use Rattle.vx_flow.specs.declared.graph.Op.TheVariants.{Across}
use Rattle.vx_flow.specs.Effects.{IsIn, reads, writes}
use Rattle.vx_flow.specs.Live.{reads_of_exit}
use Rattle.vx_flow.specs.Sound.{Leads, results_of_exit}
use Rattle.vx_mixed.specs.declared.region.Item.{Item}
use Rattle.vx_mixed.specs.declared.region.Item.TheVariants.{Plain, Split}
use Rattle.vx_mixed.specs.declared.region.Node.{Node}
use Rattle.vx_mixed.specs.declared.region.Node.TheVariants.{Unused, Enters, Inner}
use Rattle.vx_mixed.specs.declared.region.Origin.{Origin}
use Rattle.vx_mixed.specs.declared.region.Region.{Region}
use Rattle.vx_mixed.specs.declared.mixed.MixedGraph.{MixedGraph}
use Rattle.vx_mixed.specs.Edges.{IsEdge}
use Rattle.vx_mixed.specs.Settled.{has_home, bank_of, home_of}

-- each of these edges is the only one out of its block or the only one into it
abbrev pub NoCritical : (Edge → Type 0) → Type 0
NoCritical Is = (e f g : Edge) → Is e → Is f → Is g → f.from ≡ e.from → g.to ≡ e.to → (f ≡ e) ⊎ (g ≡ e)

-- an exit that splits goes to two blocks
abbrev pub PartsWays : Exit → Type 0
PartsWays (Branches p c d) = c ≢ d
PartsWays (Goto c) = Unit {0}
PartsWays (Call g arguments result next) = Unit {0}
PartsWays (Return x) = Unit {0}
PartsWays (Ends k) = Unit {0}

-- and does so by a branch value
abbrev pub TestsBranch : MixedGraph → Exit → Type 0
TestsBranch m (Branches p c d) = bank_of m p ≡ Some Branch
TestsBranch m (Goto c) = Unit {0}
TestsBranch m (Call g arguments result next) = Unit {0}
TestsBranch m (Return x) = Unit {0}
TestsBranch m (Ends k) = Unit {0}

-- a block in no region, or a word of a region; no edge goes to the others
abbrev pub is_entrance : Option Node → Bool
is_entrance (Some (Unused block)) = true
is_entrance (Some (Enters r w)) = true
is_entrance (Some Inner) = false
is_entrance None = false

-- a block that is in a region
abbrev pub is_in_region : Option Node → Bool
is_in_region (Some (Unused block)) = false
is_in_region (Some (Enters r w)) = true
is_in_region (Some Inner) = true
is_in_region None = false

-- the block was made for copies
abbrev pub IsMade : MixedGraph → ℕ → Type 0
IsMade m b = (origin : Origin) × (slice_get m.origins b ≡ Some (Some origin))

-- an operation of a block in no region, or of a region
pub data IsOp (m : MixedGraph) (op : Op) : Type 0 where
  block_op : (b : ℕ) (block : Block) → slice_get m.nodes b ≡ Some (Unused block) → IsIn op block.ops → IsOp m op
  region_op : (r j cluster : ℕ) (g : Region) (word : List Item) → slice_get m.regions r ≡ Some g → slice_get g.words j ≡ Some word → IsIn (Plain op cluster) word → IsOp m op

abbrev pub names_of : Op → List ℕ
names_of op = reads op ++ writes op

-- the block names value v
abbrev pub Names : Block → ℕ → Type 0
Names block v = ((op : Op) × IsIn op block.ops × IsIn v (names_of op)) ⊎ IsIn v (reads_of_exit block.exit ++ results_of_exit block.exit)

pub record Valid (m : MixedGraph) : Type 0 where
  -- values and their copies to four clusters have numbers of 32 bits
  pub copies : 5 * length m.banks < 2 ^ 32
  -- each block was made on an edge, with the cluster of each of its operations, or is one of the function's graph
  pub origins : length m.origins ≡ length m.nodes
  pub clusters : (b : ℕ) (block : Block) (origin : Origin) → slice_get m.nodes b ≡ Some (Unused block) → slice_get m.origins b ≡ Some (Some origin) → length origin.clusters ≡ length block.ops
  -- exits
  pub block_parts : (b : ℕ) (block : Block) → slice_get m.nodes b ≡ Some (Unused block) → PartsWays block.exit × TestsBranch m block.exit
  pub region_parts : (r : ℕ) (g : Region) → slice_get m.regions r ≡ Some g → PartsWays g.last × TestsBranch m g.last
  -- the entry can be entered
  pub begins : slice_get m.nodes 0 ≢ Some Inner
  -- edges; those of a region begin at blocks of it
  pub splits_from : (r j p d : ℕ) (y : Bool) (e : Edge) (g : Region) (word : List Item) → slice_get m.regions r ≡ Some g → slice_get g.words j ≡ Some word → IsIn (Split p y e d) word → is_in_region (slice_get m.nodes e.from) ≡ true
  pub last_from : (r : ℕ) (g : Region) → slice_get m.regions r ≡ Some g → is_in_region (slice_get m.nodes g.from) ≡ true
  pub leads : (e : Edge) → IsEdge m e → is_entrance (slice_get m.nodes e.to) ≡ true
  pub entry : (e : Edge) → IsEdge m e → e.to ≢ 0
  pub uncritical : NoCritical (IsEdge m)
  pub one_way : (e f : Edge) → IsEdge m e → IsEdge m f → IsMade m e.to → f.to ≡ e.to → f ≡ e
  -- a region is entered at a word of its own, or behind its last
  pub enters : (b r w : ℕ) → slice_get m.nodes b ≡ Some (Enters r w) → (g : Region) × (slice_get m.regions r ≡ Some g) × (w ≤ length g.words)
  -- made blocks alone name copies of values; what is copied is a value of the graph, to a copy on another cluster than its home
  pub names : (b v : ℕ) (block : Block) → slice_get m.nodes b ≡ Some (Unused block) → slice_get m.origins b ≡ Some None → Names block v → v < length m.banks
  pub copied : (v u : ℕ) → IsOp m (Across v u) → length m.banks ≤ v
  pub away : (v u : ℕ) → IsOp m (Across v u) → (u < length m.banks) × (k : ℕ) × (has_home m.homes.clusters u ≡ Some k) × (home_of m v ≢ Some k)

-- an edge of a graph of blocks
abbrev pub IsGraphEdge : Graph → Edge → Type 0
IsGraphEdge graph e = Leads graph.blocks e.from e.to

-- what a sound graph has besides, from which a graph of blocks and regions begins
pub record CanBegin (graph : Graph) : Type 0 where
  pub copies : 5 * length graph.banks < 2 ^ 32
  pub parts : (b : ℕ) (block : Block) → slice_get graph.blocks b ≡ Some block → PartsWays block.exit
  pub entry : (e : Edge) → IsGraphEdge graph e → e.to ≢ 0
  pub uncritical : NoCritical (IsGraphEdge graph)
