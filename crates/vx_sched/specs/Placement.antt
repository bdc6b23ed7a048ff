-- Where the operations of a clustered trace are placed: each in the first word that its delays allow and that has room for
-- it beside the operations of that word that come before it. Greater heights come first.
use Rattle.std.specs.Prelude.{◌≡◌, ◌<◌, ◌≤◌, ◌⊎◌, ◌+◌, ◌&&◌, ◌||◌, ℕ, suc, Bool, true, false, nat_lt, nat_eq, Option, Some, None, List, [], ◌∷◌, length, map, slice_get, slice_index_or}
use Rattle.std.specs.List.{filter, flat_map}
use Rattle.vx_flow.specs.declared.trace.TraceOp.{TraceOp}
use Rattle.vx_flow.specs.declared.trace.Trace.{Trace}
use Rattle.vx_flow.specs.declared.trace.Clustered.{Clustered}
use Rattle.vx_flow.specs.declared.trace.Homes.{Homes}
use Rattle.vx_flow.specs.Walk.{numbers}
use Rattle.vx_isa.specs.Numbers.{Numbers}
use Rattle.vx_room.specs.declared.items.ClusteredItem.{ClusteredItem}
use Rattle.vx_room.specs.Items.{item_of}
use Rattle.vx_room.specs.Room.{has_room}
use Rattle.vx_dep.specs.declared.mode.Mode.{Mode}
use Rattle.vx_dep.specs.declared.deps.Deps.{Deps}
use Rattle.vx_dep.specs.Deps.{IsDeps}
use Rattle.vx_dep.specs.Delays.{Applies, AreHeights}
use Rattle.vx_dep.specs.Compensation.{word_at, greatest}

-- the operation at place o comes before the one at place p
abbrev pub comes_before : (height : ℕ → ℕ) → (o p : ℕ) → Bool
comes_before height o p = nat_lt (height p) (height o) || (nat_eq (height o) (height p) && nat_lt o p)

-- the operation at a place, on its cluster
abbrev pub item_there : ℕ → Option TraceOp → List ClusteredItem
item_there cluster None = []
item_there cluster (Some op) = record { cluster = cluster; item = item_of op } ∷ []

abbrev pub items_at : Clustered → List ℕ → List ClusteredItem
items_at c places = flat_map (λ i. item_there (slice_index_or c.clusters i 0) (slice_get c.trace.ops i)) places

-- the places in word w, in the order of the trace
abbrev pub places_in : List ℕ → ℕ → List ℕ
places_in words w = filter (λ i. nat_eq (word_at words i) w) (numbers 0 (length words))

-- o, and those places of word w that come before it
abbrev pub with_earlier : (height : ℕ → ℕ) → List ℕ → (w o : ℕ) → List ℕ
with_earlier height words w o = o ∷ filter (λ p. comes_before height p o) (places_in words w)

-- the first word that the delays allow for the operation at place o: the greatest sum of the word and the delay of an earlier
-- operation, 0 where none has a delay
pub record IsReady (m : Numbers) (mode : Mode) (t : Trace) (words : List ℕ) (o ready : ℕ) : Type 0 where
  pub met : (i delay : ℕ) → Applies m mode t i o delay → word_at words i + delay ≤ ready
  pub reached : (ready ≡ 0) ⊎ ((i : ℕ) × (delay : ℕ) × Applies m mode t i o delay × (ready ≡ word_at words i + delay))

pub record PlacedBy (c : Clustered) (m : Numbers) (homes : Homes) (mode : Mode) (height : ℕ → ℕ) (words : List ℕ) : Type 0 where
  pub each : length words ≡ length c.trace.ops
  pub ready : (o ready : ℕ) → o < length words → IsReady m mode c.trace words o ready → ready ≤ word_at words o
  pub room : (w : ℕ) → has_room m homes (items_at c (places_in words w)) ≡ true
  -- in each earlier word that the delays allow it has no room beside those that come before it
  pub tight : (o ready w : ℕ) → o < length words → IsReady m mode c.trace words o ready → ready ≤ w → w < word_at words o
      → has_room m homes (items_at c (with_earlier height words w o)) ≡ false

-- the greatest word plus 1, 0 where there is no operation
abbrev pub length_of : List ℕ → ℕ
length_of words = greatest (map suc words)

-- what a call of `schedule` is given

-- the mode for which the delays were found
abbrev pub mode_in : Deps → Mode
mode_in deps = deps.sight.mode

-- the delays and heights are those of the trace on the machine, in their mode
abbrev pub AreDeps : Numbers → Trace → Deps → Type 0
AreDeps m t deps = IsDeps m (mode_in deps) t deps

-- each operation has room by itself
abbrev pub HaveRoomAlone : Numbers → Homes → Clustered → Type 0
HaveRoomAlone m homes c = (i : ℕ) → i < length c.trace.ops → has_room m homes (items_at c (i ∷ [])) ≡ true

-- laws, each the clause of a public function

-- such words are one list, where the heights are those of the trace: each operation then comes before those that have to
-- stand behind it
abbrev pub OnePlacement : Type 0
OnePlacement =
    (c : Clustered) (m : Numbers) (homes : Homes) (mode : Mode) (height : ℕ → ℕ) (words others : List ℕ)
    → AreHeights m mode c.trace height → PlacedBy c m homes mode height words → PlacedBy c m homes mode height others → words ≡ others

-- no operation could stand in an earlier word at or after its ready one beside all that stands there in the end
abbrev pub Tight : Type 0
Tight =
    (c : Clustered) (m : Numbers) (homes : Homes) (mode : Mode) (height : ℕ → ℕ) (words : List ℕ) (o ready w : ℕ)
    → PlacedBy c m homes mode height words → o < length words → IsReady m mode c.trace words o ready → ready ≤ w → w < word_at words o
    → has_room m homes (items_at c (o ∷ places_in words w)) ≡ false
