-- Which values are live at an entrance of a graph of blocks and regions: on some way from there the value is read before it
-- is written. Every operation of a word counts, also one that stood below a branch.
use Rattle.std.specs.Prelude.{◌≡◌, ◌⊎◌, ◌≤◌, ◌+◌, ◌-◌, ℕ, Bool, Some, List, [], ◌∷◌, map, drop, take, slice_get}
use Rattle.std.specs.List.{flat_map}
use Rattle.vx_flow.specs.declared.graph.Op.{Op}
use Rattle.vx_flow.specs.declared.graph.Exit.{Exit}
use Rattle.vx_flow.specs.declared.graph.Exit.TheVariants.{Goto}
use Rattle.vx_flow.specs.declared.graph.Edge.{Edge}
use Rattle.vx_flow.specs.declared.graph.Block.{Block}
use Rattle.vx_flow.specs.Effects.{IsIn, reads, writes}
use Rattle.vx_flow.specs.Sound.{targets_of, results_of_exit}
use Rattle.vx_flow.specs.Live.{reads_of_exit}
use Rattle.vx_mixed.specs.declared.region.Item.{Item}
use Rattle.vx_mixed.specs.declared.region.Item.TheVariants.{Plain, Split}
use Rattle.vx_mixed.specs.declared.region.Region.{Region}
use Rattle.vx_mixed.specs.declared.region.Node.TheVariants.{Unused, Enters}
use Rattle.vx_mixed.specs.declared.mixed.MixedGraph.{MixedGraph}

abbrev pub item_reads : Item → List ℕ
item_reads (Plain op cluster) = reads op
item_reads (Split p y e d) = p ∷ []

abbrev pub item_writes : Item → List ℕ
item_writes (Plain op cluster) = writes op
item_writes (Split p y e d) = []

abbrev pub word_reads : List Item → List ℕ
word_reads word = flat_map item_reads word

abbrev pub word_writes : List Item → List ℕ
word_writes word = flat_map item_writes word

-- an operation of a block as an item; a block has no clusters
abbrev pub plain : Op → Item
plain op = Plain op 0

-- a block is a list of words of one operation each
abbrev pub single : Op → List Item
single op = plain op ∷ []

-- a way through a block or a region: the words that are issued on it, and the exit
pub record Passage : Type 0 where
  pub words : List (List Item)
  pub exit : Exit

-- the ways from an entrance: through a block; or from a word of a region on, to a split or to the end
pub data IsPassage (m : MixedGraph) : ℕ → Passage → Type 0 where
  through_block : {b : ℕ} {block : Block} → slice_get m.nodes b ≡ Some (Unused block) → IsPassage m b (record { words = map single block.ops; exit = block.exit })
  by_split : {b r : ℕ} (w j p d : ℕ) (e : Edge) (y : Bool) {g : Region} (word : List Item) → slice_get m.nodes b ≡ Some (Enters r w) → slice_get m.regions r ≡ Some g → w ≤ j → slice_get g.words j ≡ Some word → IsIn (Split p y e d) word → IsPassage m b (record { words = take (j + 1 - w) (drop w g.words); exit = Goto e.to })
  to_the_end : {b r w : ℕ} {g : Region} → slice_get m.nodes b ≡ Some (Enters r w) → slice_get m.regions r ≡ Some g → IsPassage m b (record { words = drop w g.words; exit = g.last })

-- these words and then the exit read v before they write it; what a word reads was there before the word
abbrev pub ReadsFirst : List (List Item) → Exit → ℕ → Type 0
ReadsFirst [] exit v = IsIn v (reads_of_exit exit)
ReadsFirst (word ∷ words) exit v = IsIn v (word_reads word) ⊎ ((IsIn v (word_writes word) → ⊥) × ReadsFirst words exit v)

-- they do not write it
abbrev pub Untouched : List (List Item) → ℕ → Type 0
Untouched [] v = Unit {0}
Untouched (word ∷ words) v = (IsIn v (word_writes word) → ⊥) × Untouched words v

-- some way from entrance b on reads v before writing it
pub data Live (m : MixedGraph) : ℕ → ℕ → Type 0 where
  here : {b v : ℕ} {p : Passage} → IsPassage m b p → ReadsFirst p.words p.exit v → Live m b v
  beyond : {b c v : ℕ} {p : Passage} → IsPassage m b p → Untouched p.words v → (IsIn v (results_of_exit p.exit) → ⊥) → IsIn c (targets_of p.exit) → Live m c v → Live m b v
