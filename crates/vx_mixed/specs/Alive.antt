-- What is live at the start of a path of blocks, at its splits and at its end.
use Rattle.std.specs.Prelude.{◌⊎◌, ℕ, List, [], ◌∷◌}
use Rattle.vx_flow.specs.declared.graph.Exit.{Exit}
use Rattle.vx_flow.specs.Effects.{IsIn}
use Rattle.vx_flow.specs.Sound.{targets_of, results_of_exit}
use Rattle.vx_flow.specs.Live.{reads_of_exit}
use Rattle.vx_mixed.specs.declared.region.Item.{Item}
use Rattle.vx_mixed.specs.declared.region.Item.TheVariants.{Plain, Split}
use Rattle.vx_mixed.specs.declared.mixed.MixedGraph.{MixedGraph}
use Rattle.vx_mixed.specs.Live.{item_reads, item_writes, Live}

-- live at the end of the edge by which a split leaves
abbrev pub AfterItem : MixedGraph → Item → ℕ → Type 0
AfterItem m (Plain op cluster) v = ⊥
AfterItem m (Split p y edge d) v = Live m edge.to v

-- read by the last exit, or live behind it
abbrev pub AtEnd : MixedGraph → Exit → ℕ → Type 0
AtEnd m x v = IsIn v (reads_of_exit x) ⊎ ((c : ℕ) × IsIn c (targets_of x) × (IsIn v (results_of_exit x) → ⊥) × Live m c v)

-- read, or live on an edge that leaves, before it is written
abbrev pub Alive : MixedGraph → List Item → ℕ → Type 0 → Type 0
Alive m [] v E = E
Alive m (i ∷ is) v E = IsIn v (item_reads i) ⊎ (AfterItem m i v ⊎ ((IsIn v (item_writes i) → ⊥) × Alive m is v E))
