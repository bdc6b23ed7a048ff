-- A graph of regions laid out as words: the regions in the order in which they were made, each followed by what comes after
-- its last word, and then by the ways out of its splits.
use Rattle.std.specs.Prelude.{◌+◌, ℕ, zero, suc, Option, Some, List, [], ◌∷◌, ◌++◌, length, slice_get, ◌≢◌}
use Rattle.vx_flow.specs.declared.graph.Exit.{Exit}
use Rattle.vx_flow.specs.declared.graph.Exit.TheVariants.{Goto, Split as Branches, Call as Calling, Return as Returning, Ends as Ending}
use Rattle.vx_mixed.specs.declared.region.Item.{Item}
use Rattle.vx_mixed.specs.declared.region.Item.TheVariants.{Plain, Split}
use Rattle.vx_mixed.specs.declared.region.Region.{Region}
use Rattle.vx_mixed.specs.declared.region.Node.{Node}
use Rattle.vx_mixed.specs.declared.region.Node.TheVariants.{Enters, Unused}
use Rattle.vx_mixed.specs.declared.layout.Laid.{Laid}
use Rattle.vx_mixed.specs.declared.layout.Laid.TheVariants.{Plain as LaidPlain, Split as LaidSplit}
use Rattle.vx_mixed.specs.declared.layout.VirtualWord.{VirtualWord}
use Rattle.vx_mixed.specs.declared.layout.VirtualWord.TheVariants.{Planned, Drain, Transfer, Choice, Call, Return, Ends}
use Rattle.vx_mixed.specs.declared.layout.VWords.{VWords}
use Rattle.vx_mixed.specs.declared.mixed.MixedGraph.{MixedGraph}
use Rattle.vx_flow.specs.declared.graph.Block.{Block}

-- exits, where `place` is the place at which a block is entered

abbrev pub drain_words : ℕ → List VirtualWord
drain_words zero = []
drain_words (suc n) = Drain (suc n) ∷ []

abbrev pub leave_words : (ℕ → ℕ) → Exit → List VirtualWord
leave_words place (Goto c) = Transfer (place c) ∷ []
leave_words place (Branches p c d) = Choice p (place c) ∷ Transfer (place d) ∷ []
leave_words place (Calling g arguments result next) = Call g arguments result ∷ Transfer (place next) ∷ []
leave_words place (Returning x) = Return x ∷ []
leave_words place (Ending k) = Ends k ∷ []

-- the way out of a split: its empty cycles, and on to its block
abbrev pub stub : (ℕ → ℕ) → Item → List VirtualWord
stub place (Plain op cluster) = []
stub place (Split p y e d) = drain_words d ++ Transfer (place e.to) ∷ []

abbrev pub word_stubs : (ℕ → ℕ) → List Item → List VirtualWord
word_stubs place [] = []
word_stubs place (item ∷ items) = stub place item ++ word_stubs place items

abbrev pub stubs : (ℕ → ℕ) → List (List Item) → List VirtualWord
stubs place [] = []
stubs place (word ∷ words) = word_stubs place word ++ stubs place words

abbrev pub exit_words : (ℕ → ℕ) → Region → List VirtualWord
exit_words place g = drain_words g.drain ++ leave_words place g.last

-- words, where the ways out of their splits stand one after the other from a place on

abbrev pub laid : ℕ → List Item → List Laid
laid at [] = []
laid at (Plain op cluster ∷ items) = LaidPlain op cluster ∷ laid at items
laid at (Split p y e d ∷ items) = LaidSplit p y at ∷ laid (at + length (stub (λ b. 0) (Split p y e d))) items

abbrev pub laid_words : (region word at : ℕ) → List (List Item) → List VirtualWord
laid_words r w at [] = []
laid_words r w at (word ∷ words) = Planned r w (laid at word) ∷ laid_words r (w + 1) (at + length (word_stubs (λ b. 0) word)) words

-- region r from place `at` on
abbrev pub region_words : (ℕ → ℕ) → (r at : ℕ) → Region → List VirtualWord
region_words place r at g = laid_words r 0 (at + length g.words + length (exit_words place g)) g.words ++ (exit_words place g ++ stubs place g.words)

-- lengths do not depend on places
abbrev pub region_size : Region → ℕ
region_size g = length g.words + length (exit_words (λ b. 0) g) + length (stubs (λ b. 0) g.words)

-- where region r begins
abbrev pub region_place : List Region → ℕ → ℕ
region_place [] r = 0
region_place (g ∷ gs) zero = 0
region_place (g ∷ gs) (suc r) = region_size g + region_place gs r

abbrev pub place_of_node : List Region → Option Node → ℕ
place_of_node gs (Some (Enters r w)) = region_place gs r + w
place_of_node gs _ = 0

-- where a block is entered
abbrev pub place_of : MixedGraph → ℕ → ℕ
place_of m b = place_of_node m.regions (slice_get m.nodes b)

abbrev pub all_words : MixedGraph → (r at : ℕ) → List Region → List VirtualWord
all_words m r at [] = []
all_words m r at (g ∷ gs) = region_words (place_of m) r at g ++ all_words m (r + 1) (at + region_size g) gs

-- the layout of a graph of which no block is left
abbrev pub layout_of : MixedGraph → VWords
layout_of m = record { banks = m.banks; homes = m.homes; words = all_words m 0 0 m.regions; entry = place_of m 0; regions = length m.regions }

-- no block is left
abbrev pub IsDone : MixedGraph → Type 0
IsDone m = (b : ℕ) (block : Block) → slice_get m.nodes b ≢ Some (Unused block)
