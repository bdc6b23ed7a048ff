-- The nodes of a layout, and the ways from node to node as routes, for the solver of liveness.
use Rattle.std.specs.Prelude.{◌≡◌, ◌⊎◌, ◌↔◌, not, ◌<◌, ◌+◌, ℕ, suc, Bool, true, false, if◌then◌else◌, is_some, IsTrue, Option, Some, None, List, [], ◌∷◌, ◌++◌, length, map, drop, slice_get, slice_index_or, slice_set}
use Rattle.std.specs.List.{flat_map}
use Rattle.vx_flow.specs.declared.graph.Operand.{Operand}
use Rattle.vx_flow.specs.declared.routes.Route.{Route}
use Rattle.vx_flow.specs.declared.routes.Touch.{Touch}
use Rattle.vx_flow.specs.Live.{touch}
use Rattle.vx_flow.specs.Rows.{lives}
use Rattle.vx_mixed.specs.declared.layout.Laid.{Laid}
use Rattle.vx_mixed.specs.declared.layout.Laid.TheVariants.{Plain, Split}
use Rattle.vx_mixed.specs.declared.layout.VirtualWord.{VirtualWord}
use Rattle.vx_mixed.specs.declared.layout.VirtualWord.TheVariants.{Planned, Drain, Transfer, Choice, Call, Return, Ends}
use Rattle.vx_mixed.specs.declared.layout.VWords.{VWords}
use Rattle.vx_mixed.specs.LaidSettled.{LeadsTo}
use Rattle.vx_regs.specs.Intervals.{IsLive, word_reads, word_writes}
use Rattle.vx_regs.specs.declared.nodes.Nodes.{Nodes}
use Rattle.vx_regs.specs.declared.liveness.Living.{Living}

-- marks: for each place of a layout whether it is a node

abbrev pub marked : List Bool → ℕ → List Bool
marked marks place = slice_set marks place true

-- an item marks where it leads, and then also the place behind its word
abbrev pub marked_by_item : List Bool → (next : ℕ) → Laid → List Bool
marked_by_item marks next (Plain op cluster) = marks
marked_by_item marks next (Split test y to) = marked (marked marks to) next

abbrev pub marked_by_items : List Bool → (next : ℕ) → List Laid → List Bool
marked_by_items marks next [] = marks
marked_by_items marks next (item ∷ items) = marked_by_items (marked_by_item marks next item) next items

abbrev pub marked_by_word : List Bool → (next : ℕ) → VirtualWord → List Bool
marked_by_word marks next (Planned r w items) = marked_by_items marks next items
marked_by_word marks next (Drain n) = marks
marked_by_word marks next (Transfer to) = marked marks to
marked_by_word marks next (Choice test to) = marked (marked marks to) next
marked_by_word marks next (Call g arguments result) = marked marks next
marked_by_word marks next (Return x) = marks
marked_by_word marks next (Ends k) = marks

-- words of which the first stands at a place
abbrev pub marked_by_words : List Bool → (place : ℕ) → List VirtualWord → List Bool
marked_by_words marks place [] = marks
marked_by_words marks place (word ∷ words) = marked_by_words (marked_by_word marks (place + 1) word) (place + 1) words

-- the marked places, numbered from n on

abbrev pub number_if : Bool → ℕ → Option ℕ
number_if true n = Some n
number_if false n = None

abbrev pub next_if : Bool → ℕ → ℕ
next_if true n = n + 1
next_if false n = n

abbrev pub numbered : ℕ → List Bool → List (Option ℕ)
numbered n [] = []
numbered n (mark ∷ marks) = number_if mark n ∷ numbered (next_if mark n) marks

-- the node at a place, if it is one
abbrev pub node_in : List (Option ℕ) → (place : ℕ) → Option ℕ
node_in numbers place = slice_index_or numbers place None

-- whether a word may lead to the one behind it
abbrev pub steps_on : VirtualWord → Bool
steps_on (Planned r w items) = true
steps_on (Drain n) = true
steps_on (Transfer to) = false
steps_on (Choice test to) = true
steps_on (Call g arguments result) = true
steps_on (Return x) = false
steps_on (Ends k) = false

-- for each of some words whether it stands behind one that does not lead there; of the first this is told
abbrev pub starts : Bool → List VirtualWord → List Bool
starts first [] = []
starts first (word ∷ words) = first ∷ starts (not (steps_on word)) words

-- the nodes are the entry of the layout and the places that its words mark, each with a number of its own
pub record AreNodes (l : VWords) (nodes : Nodes) : Type 0 where
  pub marks : List Bool
  pub few : length marks ≡ length l.words
  pub numbers : nodes.numbers ≡ numbered 0 (marked_by_words (marked marks l.entry) 0 l.words)
  pub count : (place n : ℕ) → node_in nodes.numbers place ≡ Some n → n < nodes.count

-- where a word leads, by the numbers of the nodes

abbrev pub node_list : Option ℕ → List ℕ
node_list None = []
node_list (Some n) = n ∷ []

abbrev pub item_ways : List (Option ℕ) → Laid → List ℕ
item_ways numbers (Plain op cluster) = []
item_ways numbers (Split test y to) = node_list (node_in numbers to)

abbrev pub word_ways : List (Option ℕ) → (next : ℕ) → VirtualWord → List ℕ
word_ways numbers next (Planned r w items) = flat_map (item_ways numbers) items ++ node_list (node_in numbers next)
word_ways numbers next (Drain n) = node_list (node_in numbers next)
word_ways numbers next (Transfer to) = node_list (node_in numbers to)
word_ways numbers next (Choice test to) = node_list (node_in numbers to) ++ node_list (node_in numbers next)
word_ways numbers next (Call g arguments result) = node_list (node_in numbers next)
word_ways numbers next (Return x) = []
word_ways numbers next (Ends k) = []

-- a route ends at a word but where the word goes straight on, and behind it is no node
abbrev pub ends_at : List (Option ℕ) → (next : ℕ) → VirtualWord → Bool
ends_at numbers next (Planned r w items) = is_some (node_in numbers next)
ends_at numbers next (Drain n) = is_some (node_in numbers next)
ends_at numbers next (Transfer to) = true
ends_at numbers next (Choice test to) = true
ends_at numbers next (Call g arguments result) = true
ends_at numbers next (Return x) = true
ends_at numbers next (Ends k) = true

-- what a word does to values: it reads, and then writes
abbrev pub word_touches : VirtualWord → List Touch
word_touches word = map (touch true) (word_reads word) ++ map (touch false) (word_writes word)

-- the way straight on from the first of some words, which stands at a place: what is read and written on it, and where it leads

abbrev pub way_touches : List (Option ℕ) → (place : ℕ) → List VirtualWord → List Touch
way_touches numbers place [] = []
way_touches numbers place (word ∷ words) = word_touches word ++ (if ends_at numbers (place + 1) word then [] else way_touches numbers (place + 1) words)

abbrev pub way_ends : List (Option ℕ) → (place : ℕ) → List VirtualWord → List ℕ
way_ends numbers place [] = []
way_ends numbers place (word ∷ words) = if ends_at numbers (place + 1) word then word_ways numbers (place + 1) word else way_ends numbers (place + 1) words

abbrev pub way_from : List (Option ℕ) → (place node : ℕ) → List VirtualWord → Route
way_from numbers place node words = record { from = node; to = way_ends numbers place words; touches = way_touches numbers place words }

-- the ways from the nodes of a place and of those behind it

abbrev pub way_list : List (Option ℕ) → List VirtualWord → (place : ℕ) → Option ℕ → List Route
way_list numbers words place None = []
way_list numbers words place (Some node) = way_from numbers place node (drop place words) ∷ []

abbrev pub ways_from : List (Option ℕ) → List VirtualWord → (place : ℕ) → List (Option ℕ) → List Route
ways_from numbers words place [] = []
ways_from numbers words place (number ∷ rest) = way_list numbers words place number ++ ways_from numbers words (place + 1) rest

-- the answer for a value at a place: what the rows of live values have at its node

abbrev pub lives_in : List (List ℕ) → Option ℕ → ℕ → Bool
lives_in rows None v = false
lives_in rows (Some node) v = lives rows node v

abbrev pub lives_there : Living → (place : ℕ) → ℕ → Bool
lives_there living place v = lives_in living.live (node_in living.nodes.numbers place) v

-- it is right where the layout is entered, and behind each call
pub record LivesAt (l : VWords) (living : Living) : Type 0 where
  pub entry : (v : ℕ) → IsTrue (lives_there living l.entry v) ↔ IsLive l l.entry v
  pub behind : (p g v : ℕ) (arguments : List Operand) (result : Option ℕ) → slice_get l.words p ≡ Some (Call g arguments result) → IsTrue (lives_there living (suc p) v) ↔ IsLive l (suc p) v

-- each place is a node, or the word above leads there
pub record AllOnWays (l : VWords) (nodes : Nodes) : Type 0 where
  pub reached : (place : ℕ) → place < length l.words → ((n : ℕ) × (node_in nodes.numbers place ≡ Some n)) ⊎ ((p : ℕ) × (word : VirtualWord) × (place ≡ suc p) × (slice_get l.words p ≡ Some word) × LeadsTo p word place)

-- what is found
pub record NodesFound (l : VWords) (nodes : Nodes) : Type 0 where
  pub are : AreNodes l nodes
  pub ways : AllOnWays l nodes

-- it is right at all nodes, and each place is on the way from one
pub record LivesAtNodes (l : VWords) (living : Living) : Type 0 where
  pub nodes : AreNodes l living.nodes
  pub ways : AllOnWays l living.nodes
  pub exact : (p n v : ℕ) → node_in living.nodes.numbers p ≡ Some n → IsTrue (lives living.live n v) ↔ IsLive l p v
