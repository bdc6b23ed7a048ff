-- The trace that is picked in a graph of blocks and regions by the counts of its blocks and edges.
use Rattle.std.specs.Prelude.{◌≡◌, ◌+◌, ◌<◌, ◌≤◌, ◌⊎◌, ℕ, zero, suc, max, nat_lt, if◌then◌else◌, Option, Some, None, List, [], ◌∷◌, ◌++◌, length, slice_get}
use Rattle.vx_flow.specs.declared.graph.Block.{Block}
use Rattle.vx_flow.specs.declared.graph.Edge.{Edge}
use Rattle.vx_flow.specs.Effects.{IsIn}
use Rattle.vx_mixed.specs.declared.region.Node.TheVariants.{Unused}
use Rattle.vx_mixed.specs.declared.mixed.MixedGraph.{MixedGraph}
use Rattle.vx_mixed.specs.Edges.{IsEdge}
use Rattle.vx_mixed.specs.FromGraph.{origin_edge}
use Rattle.vx_mixed.specs.Settled.{NoTwice}
use Rattle.vx_mixed.specs.TraceOf.{EndsWithCall, block_at, inner_edges}
use Rattle.vx_profile.specs.declared.counts.Counts.{Counts}
use Rattle.vx_profile.specs.Counts.{block_count, edge_count}

-- Counts

-- the edge on which a block was made, if it is none of the function's graph
abbrev pub made_on : MixedGraph → ℕ → Option Edge
made_on m b = origin_edge (slice_get m.origins b)

-- the edge on which the end of an edge was made, of two made ends the later one
abbrev pub made_later : Edge → (from to : Option Edge) → Option Edge
made_later e None to = to
made_later e (Some f) None = Some f
made_later e (Some f) (Some g) = if nat_lt e.from e.to then Some g else Some f

abbrev pub edge_or : Option Edge → Edge → Edge
edge_or None e = e
edge_or (Some f) e = f

-- The edge whose count an edge has, after so many steps: an edge at a made block has the count of the edge on which that block
-- was made. A block is made on an edge between blocks that were there before, so that no edge needs more steps than there are
-- blocks.
abbrev pub counted_after : ℕ → MixedGraph → Edge → Edge
counted_after zero m e = e
counted_after (suc n) m e = counted_after n m (edge_or (made_later e (made_on m e.from) (made_on m e.to)) e)

abbrev pub counted : MixedGraph → Edge → Edge
counted m e = counted_after (length m.nodes) m e

-- the count of an edge of the graph
unfoldable pub count_of_edge : MixedGraph → Counts → Edge → ℕ
count_of_edge m counts e = edge_count counts m.function (counted m e).from (counted m e).to

abbrev pub count_or_made : MixedGraph → Counts → ℕ → Option Edge → ℕ
count_or_made m counts b None = block_count counts m.function b
count_or_made m counts b (Some e) = count_of_edge m counts e

-- the count of a block: its own, or that of the edge on which it was made
abbrev pub count_of_block : MixedGraph → Counts → ℕ → ℕ
count_of_block m counts b = count_or_made m counts b (made_on m b)

-- the greatest count of some blocks
abbrev pub greatest_count : MixedGraph → Counts → List ℕ → ℕ
greatest_count m counts [] = 0
greatest_count m counts (b ∷ bs) = max (count_of_block m counts b) (greatest_count m counts bs)

-- Heaviest

-- x is the one with the greatest count, of several the one with the lowest number
pub record Greatest {A : Type 0} (Is : A → Type 0) (count number : A → ℕ) (x : A) : Type 0 where
  pub is : Is x
  pub others : (y : A) → Is y → (count y < count x) ⊎ ((count y ≡ count x) × (number x ≤ number y))

-- e is the heaviest edge out of its source; ties go to the lowest target
abbrev pub HeaviestOut : MixedGraph → Counts → Edge → Type 0
HeaviestOut m counts e = Greatest (λ f. IsEdge m f × (f.from ≡ e.from)) (count_of_edge m counts) (λ f. f.to) e

-- e is the heaviest edge into its target; ties go to the lowest source
abbrev pub HeaviestIn : MixedGraph → Counts → Edge → Type 0
HeaviestIn m counts e = Greatest (λ f. IsEdge m f × (f.to ≡ e.to)) (count_of_edge m counts) (λ f. f.from) e

-- Traces

-- the block is in no region
abbrev pub IsUnused : MixedGraph → ℕ → Type 0
IsUnused m b = (block : Block) × (slice_get m.nodes b ≡ Some (Unused block))

-- the operations of some blocks
abbrev pub size_of : MixedGraph → List ℕ → ℕ
size_of m [] = 0
size_of m (b ∷ bs) = length (block_at m b).ops + size_of m bs

-- a path of unused blocks, each once, along edges that are the heaviest out of their sources and into their targets
pub record IsPath (m : MixedGraph) (counts : Counts) (t : List ℕ) : Type 0 where
  pub unused : (b : ℕ) → IsIn b t → IsUnused m b
  pub once : NoTwice t
  pub out : (e : Edge) → IsIn e (inner_edges t) → HeaviestOut m counts e
  pub into : (e : Edge) → IsIn e (inner_edges t) → HeaviestIn m counts e

-- no edge is a back edge or goes to a header, and no block but the last ends with a call
pub record KeepsOn (m : MixedGraph) (t : List ℕ) : Type 0 where
  pub no_back : (e : Edge) → IsIn e (inner_edges t) → IsIn e m.back → ⊥
  pub no_header : (e : Edge) → IsIn e (inner_edges t) → IsIn e.to m.headers → ⊥
  pub no_call : (e : Edge) → IsIn e (inner_edges t) → EndsWithCall (block_at m e.from).exit → ⊥

-- The trace t is picked: it has a seed, with some blocks before and some after it.
pub record Picked (m : MixedGraph) (counts : Counts) (t : List ℕ) : Type 0 where
  pub before : List ℕ
  pub seed : ℕ
  pub after : List ℕ
  pub parts : t ≡ before ++ seed ∷ after
  -- the seed is the unused block with the greatest count, the lowest number on ties
  pub greatest : Greatest (IsUnused m) (count_of_block m counts) (λ b. b) seed
  -- t is a path along heaviest edges, and keeps on
  pub path : IsPath m counts t
  pub keeps_on : KeepsOn m t
  -- it is the seed alone, or has at most 512 operations
  pub small : (t ≡ seed ∷ []) ⊎ (size_of m t ≤ 512)
  -- no block could follow the blocks from the seed on so that these have at most 512, and none could precede t so that all have
  pub ends : (b : ℕ) → IsPath m counts (seed ∷ after ++ b ∷ []) → KeepsOn m (seed ∷ after ++ b ∷ []) → 512 < size_of m (seed ∷ after ++ b ∷ [])
  pub begins : (b : ℕ) → IsPath m counts (b ∷ t) → KeepsOn m (b ∷ t) → 512 < size_of m (b ∷ t)

-- what is picked: nothing exactly where no block is left
abbrev pub Picks : MixedGraph → Counts → Option (List ℕ) → Type 0
Picks m counts None = (b : ℕ) → IsUnused m b → ⊥
Picks m counts (Some t) = Picked m counts t

-- at most one trace is picked in a graph by its counts
abbrev pub OnePick : Type 0
OnePick = (m : MixedGraph) (counts : Counts) (t u : List ℕ) → Picked m counts t → Picked m counts u → t ≡ u
