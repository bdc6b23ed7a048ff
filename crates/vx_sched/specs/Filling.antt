-- What stands while words are filled: some operations have a word, and each word has a row of items.
use Rattle.std.specs.Prelude.{◌≡◌, ◌<◌, ◌≤◌, ◌⊎◌, ◌+◌, ℕ, Bool, true, false, nat_eq, max, Option, Some, None, List, [], ◌∷◌, ◌++◌, length, slice_get, slice_index_or}
use Rattle.std.specs.List.{filter}
use Rattle.vx_flow.specs.declared.trace.Trace.{Trace}
use Rattle.vx_flow.specs.declared.trace.Clustered.{Clustered}
use Rattle.vx_flow.specs.declared.trace.Homes.{Homes}
use Rattle.vx_flow.specs.Walk.{numbers}
use Rattle.vx_isa.specs.Numbers.{Numbers}
use Rattle.vx_room.specs.declared.items.ClusteredItem.{ClusteredItem}
use Rattle.vx_room.specs.Room.{has_room}
use Rattle.vx_dep.specs.declared.mode.Mode.{Mode}
use Rattle.vx_dep.specs.declared.deps.Deps.{Deps}
use Rattle.vx_dep.specs.declared.earlier.Earlier.{Earlier}
use Rattle.vx_dep.specs.Delays.{Applies}
use Rattle.vx_dep.specs.Deps.{IsDeps}
use Rattle.vx_sched.specs.Placement.{comes_before, item_there}

-- the word of the operation at a place, where it has one
abbrev pub word_in : List (Option ℕ) → ℕ → Option ℕ
word_in words i = slice_index_or words i None

abbrev pub word_or_0 : Option ℕ → ℕ
word_or_0 None = 0
word_or_0 (Some w) = w

abbrev pub is_without : Option ℕ → Bool
is_without None = true
is_without (Some w) = false

abbrev pub is_word : ℕ → Option ℕ → Bool
is_word w None = false
is_word w (Some v) = nat_eq v w

-- the places in word w so far, in the order of the trace
abbrev pub places_so_far : List (Option ℕ) → ℕ → List ℕ
places_so_far words w = filter (λ i. is_word w (word_in words i)) (numbers 0 (length words))

-- no operation has a word
pub record AreWithout (count : ℕ) (words : List (Option ℕ)) : Type 0 where
  pub each : length words ≡ count
  pub without : (i : ℕ) → word_in words i ≡ None

-- which operation is next

-- of the operations without a word that stand before place k, this one comes before all others
abbrev pub IsNext : (height : ℕ → ℕ) → List (Option ℕ) → (k : ℕ) → Option ℕ → Type 0
IsNext height words k None = (p : ℕ) → p < k → word_in words p ≡ None → ⊥
IsNext height words k (Some o) = (o < k) × (word_in words o ≡ None) × ((p : ℕ) → p < k → word_in words p ≡ None → (p ≡ o) ⊎ (comes_before height o p ≡ true))

-- where it may stand

abbrev pub later_of : (ready : ℕ) → Option ℕ → (delay : ℕ) → ℕ
later_of ready None delay = ready
later_of ready (Some w) delay = max ready (w + delay)

-- the latest so far and those that the operations of a list give, as far as these have words
abbrev pub ready_over : List (Option ℕ) → (ready : ℕ) → List Earlier → ℕ
ready_over words ready [] = ready
ready_over words ready (e ∷ es) = ready_over words (later_of ready (word_in words e.place) e.delay) es

-- the first word that the delays from the operations before place k allow, as far as these have words
pub record IsReadySoFar (m : Numbers) (mode : Mode) (t : Trace) (words : List (Option ℕ)) (o k ready : ℕ) : Type 0 where
  pub met : (i delay w : ℕ) → i < k → Applies m mode t i o delay → word_in words i ≡ Some w → w + delay ≤ ready
  pub reached : (ready ≡ 0) ⊎ ((i : ℕ) × (delay : ℕ) × (w : ℕ) × Applies m mode t i o delay × (word_in words i ≡ Some w) × (ready ≡ w + delay))

abbrev pub IsReadyNow : Deps → List (Option ℕ) → (o k ready : ℕ) → Type 0
IsReadyNow deps words o k ready = (m : Numbers) (mode : Mode) (t : Trace) → IsDeps m mode t deps → IsReadySoFar m mode t words o k ready

-- the row of a word
abbrev pub row_of : List (List ClusteredItem) → ℕ → List ClusteredItem
row_of rows w = slice_index_or rows w []

-- the first word from a given one on in which an item has room beside its row
pub record IsFirstWith (m : Numbers) (homes : Homes) (rows : List (List ClusteredItem)) (item : ClusteredItem) (ready w : ℕ) : Type 0 where
  pub from : ready ≤ w
  pub room : has_room m homes (row_of rows w ++ item ∷ []) ≡ true
  pub tight : (v : ℕ) → ready ≤ v → v < w → has_room m homes (row_of rows v ++ item ∷ []) ≡ false

-- an item is put behind the row of one word
pub record Puts (rows others : List (List ClusteredItem)) (w : ℕ) (item : ClusteredItem) : Type 0 where
  pub here : row_of others w ≡ row_of rows w ++ item ∷ []
  pub elsewhere : (v : ℕ) → (v ≡ w → ⊥) → row_of others v ≡ row_of rows v

-- the item of the operation at a place
abbrev pub IsItem : Clustered → ℕ → ClusteredItem → Type 0
IsItem c o item = item_there (slice_index_or c.clusters o 0) (slice_get c.trace.ops o) ≡ item ∷ []
