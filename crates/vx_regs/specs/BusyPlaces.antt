-- The places that are noted for a value: where words name it, where it is live at a node or at a word that leads to one, and where a
-- write to it is in flight.
use Rattle.std.specs.Prelude.{◌≡◌, ◌<◌, ◌+◌, ◌-◌, ℕ, suc, IsTrue, Option, Some, List, [], ◌∷◌, ◌++◌, slice_get}
use Rattle.std.specs.List.{flat_map}
use Rattle.vx_flow.specs.declared.graph.Op.{Op}
use Rattle.vx_flow.specs.Effects.{IsIn, writes}
use Rattle.vx_flow.specs.Rows.{lives}
use Rattle.vx_mixed.specs.declared.layout.Laid.{Laid}
use Rattle.vx_mixed.specs.declared.layout.Laid.TheVariants.{Plain, Split}
use Rattle.vx_mixed.specs.declared.layout.VirtualWord.{VirtualWord}
use Rattle.vx_mixed.specs.declared.layout.VirtualWord.TheVariants.{Planned, Drain, Transfer, Choice, Call, Return, Ends}
use Rattle.vx_mixed.specs.declared.layout.VWords.{VWords}
use Rattle.vx_mixed.specs.LaidSettled.{cycles_of}
use Rattle.vx_regs.specs.declared.hulls.Hull.{Hull}
use Rattle.vx_regs.specs.Hulls.{Spanned, AtEdge}
use Rattle.vx_regs.specs.Intervals.{IsBusy, word_reads, word_writes}
use Rattle.vx_regs.specs.Ways.{node_in, node_list, word_ways}

-- names

abbrev pub AmongAt : List ℕ → (at v place : ℕ) → Type 0
AmongAt values at v place = IsIn v values × (place ≡ at)

-- one of the first words names the value
pub record NamedBelow (words : List VirtualWord) (count v place : ℕ) : Type 0 where
  pub word : VirtualWord
  pub below : place < count
  pub there : slice_get words place ≡ Some word
  pub named : IsIn v (word_reads word ++ word_writes word)

-- live values

-- a value that is one of the first
abbrev pub OneBelow : (value at count v place : ℕ) → Type 0
OneBelow value at count v place = (v < count) × (v ≡ value) × (place ≡ at)

-- one of the first values is live at a node
abbrev pub LiveBelow : List (List ℕ) → (node at count v place : ℕ) → Type 0
LiveBelow rows node at count v place = (v < count) × IsTrue (lives rows node v) × (place ≡ at)

-- or at one of some nodes
pub record LiveAmong (rows : List (List ℕ)) (nodes : List ℕ) (at count v place : ℕ) : Type 0 where
  pub node : ℕ
  pub is_node : IsIn node nodes
  pub few : v < count
  pub live : IsTrue (lives rows node v)
  pub place_is : place ≡ at

-- the node at a place, if it is one, and those to which its word leads
abbrev pub nodes_near : List (Option ℕ) → ℕ → VirtualWord → List ℕ
nodes_near numbers place word = node_list (node_in numbers place) ++ word_ways numbers (place + 1) word

pub record LiveNear (rows : List (List ℕ)) (numbers : List (Option ℕ)) (words : List VirtualWord) (count bound v place : ℕ) : Type 0 where
  pub word : VirtualWord
  pub below : place < bound
  pub there : slice_get words place ≡ Some word
  pub live : LiveAmong rows (nodes_near numbers place word) place count v place

-- writes in flight

abbrev pub split_places : Laid → List ℕ
split_places (Plain op cluster) = []
split_places (Split test y q) = q ∷ []

-- where a word at a place leads
abbrev pub leads_list : ℕ → VirtualWord → List ℕ
leads_list p (Planned r w items) = flat_map split_places items ++ ((p + 1) ∷ [])
leads_list p (Drain n) = (p + 1) ∷ []
leads_list p (Transfer to) = to ∷ []
leads_list p (Choice test to) = to ∷ ((p + 1) ∷ [])
leads_list p (Call g arguments result) = (p + 1) ∷ []
leads_list p (Return x) = []
leads_list p (Ends k) = []

-- a write that has this many cycles left at one place has that many left at another, along some way of words
pub data Flight (words : List VirtualWord) : (place left other rest : ℕ) → Type 0 where
  stays : {p n : ℕ} → Flight words p n p n
  goes : {p n q k : ℕ} {word : VirtualWord} (r : ℕ) → slice_get words p ≡ Some word → IsIn r (leads_list p word) → Flight words r (n - cycles_of word) q k → Flight words p n q k

abbrev pub InFlight : List VirtualWord → (at left value v place : ℕ) → Type 0
InFlight words at left value v place = (v ≡ value) × ((rest : ℕ) × Flight words at left place (suc rest))

pub record InFlights (words : List VirtualWord) (targets : List ℕ) (left value v place : ℕ) : Type 0 where
  pub target : ℕ
  pub is_target : IsIn target targets
  pub flies : InFlight words target left value v place

pub record Wrote (latency : Op → ℕ) (words : List VirtualWord) (items : List Laid) (targets : List ℕ) (v place : ℕ) : Type 0 where
  pub op : Op
  pub cluster : ℕ
  pub is_item : IsIn (Plain op cluster) items
  pub writes_it : IsIn v (writes op)
  pub flies : InFlights words targets (latency op - 1) v v place

abbrev pub OpWrote : (Op → ℕ) → List VirtualWord → Op → (targets : List ℕ) → (v place : ℕ) → Type 0
OpWrote latency words op targets v place = IsIn v (writes op) × InFlights words targets (latency op - 1) v v place

pub record WordWrote (latency : Op → ℕ) (words : List VirtualWord) (from : ℕ) (word : VirtualWord) (v place : ℕ) : Type 0 where
  pub region : ℕ
  pub number : ℕ
  pub items : List Laid
  pub is : word ≡ Planned region number items
  pub wrote : Wrote latency words items (leads_list from word) v place

pub record WroteBelow (latency : Op → ℕ) (words : List VirtualWord) (count v place : ℕ) : Type 0 where
  pub from : ℕ
  pub word : VirtualWord
  pub below : from < count
  pub there : slice_get words from ≡ Some word
  pub wrote : WordWrote latency words from word v place

-- the hulls go exactly from the first word at which a value is busy to the last
pub record AreHulls (latency : Op → ℕ) (l : VWords) (hulls : List (Option Hull)) : Type 0 where
  pub all : (v place : ℕ) → IsBusy latency l place v → Spanned hulls v place
  pub edges : (v place : ℕ) → AtEdge hulls v place → IsBusy latency l place v
