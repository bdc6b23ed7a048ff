-- What is alive from a word of a region on.
use Rattle.std.specs.Prelude.{◌⊎◌, ℕ, List, [], ◌∷◌}
use Rattle.vx_flow.specs.Effects.{IsIn}
use Rattle.vx_flow.specs.declared.graph.Exit.{Exit}
use Rattle.vx_mixed.specs.Alive.{AtEnd}
use Rattle.vx_mixed.specs.Live.{word_reads, word_writes, Live}
use Rattle.vx_mixed.specs.declared.mixed.MixedGraph.{MixedGraph}
use Rattle.vx_mixed.specs.declared.region.Item.TheVariants.{Plain, Split}
use Rattle.vx_mixed.specs.declared.region.Item.{Item}

abbrev pub OffEdge : MixedGraph → List Item → ℕ → Type 0
OffEdge m [] v = ⊥
OffEdge m (Plain op cluster ∷ is) v = OffEdge m is v
OffEdge m (Split p y edge d ∷ is) v = Live m edge.to v ⊎ OffEdge m is v

-- read, or live on an edge that leaves, before it is written, from these words of a region on
abbrev pub AliveWords : MixedGraph → List (List Item) → Exit → ℕ → Type 0
AliveWords m [] x v = AtEnd m x v
AliveWords m (word ∷ words) x v = IsIn v (word_reads word) ⊎ ((IsIn v (word_writes word) → ⊥) × (OffEdge m word v ⊎ AliveWords m words x v))
