-- What stands in the frame of one function, by its graph, its layout and where its values are kept.
use Rattle.std.specs.Prelude.{◌≡◌, ◌<◌, ◌≤◌, ◌+◌, ℕ, suc, Option, Some, List, [], length, slice_get, slice_index_or}
use Rattle.vx_flow.specs.declared.graph.Array.{Array}
use Rattle.vx_flow.specs.declared.graph.Graph.{Graph}
use Rattle.vx_flow.specs.declared.graph.Operand.{Operand}
use Rattle.vx_flow.specs.Effects.{IsIn}
use Rattle.vx_mixed.specs.declared.layout.VirtualWord.TheVariants.{Call}
use Rattle.vx_mixed.specs.declared.layout.VWords.{VWords}
use Rattle.vx_mixed.specs.Settled.{NoTwice}
use Rattle.vx_regs.specs.declared.map.Kept.TheVariants.{InRegister, InSlot}
use Rattle.vx_regs.specs.declared.map.RegMap.{RegMap}
use Rattle.vx_regs.specs.Intervals.{IsLive}
use Rattle.vx_regs.specs.Mapped.{kept_of}
use Rattle.vx_target.specs.Tied.{IsResult}
use Rattle.vx_slots.specs.declared.program.FunctionFrame.{FunctionFrame}
use Rattle.vx_calls.specs.Bounds.{HasSize, MayNeedSlot}

-- what is saved and brought

-- the value is live behind the word at a place, is not its result, and is in a register
pub record SurvivesIn (l : VWords) (map : RegMap) (p : ℕ) (result : Option ℕ) (v : ℕ) : Type 0 where
  pub live : IsLive l (suc p) v
  pub other : IsResult result v → ⊥
  pub number : ℕ
  pub register : kept_of map v ≡ InRegister number

-- the value is a parameter that is live at the entry, and is in a register
pub record ArrivesIn (parameters : List ℕ) (l : VWords) (map : RegMap) (v : ℕ) : Type 0 where
  pub passed : IsIn v parameters
  pub live : IsLive l l.entry v
  pub number : ℕ
  pub register : kept_of map v ≡ InRegister number

-- exactly those are saved round the call at each place, and exactly these brought to their registers at the entry
pub record SavesIn (parameters : List ℕ) (l : VWords) (map : RegMap) (round : List (List ℕ)) (entering : List ℕ) : Type 0 where
  pub saved : (p g v : ℕ) (arguments : List Operand) (result : Option ℕ) → slice_get l.words p ≡ Some (Call g arguments result) → IsIn v (slice_index_or round p []) → SurvivesIn l map p result v
  pub saves : (p g v : ℕ) (arguments : List Operand) (result : Option ℕ) → slice_get l.words p ≡ Some (Call g arguments result) → SurvivesIn l map p result v → IsIn v (slice_index_or round p [])
  pub live : (p v : ℕ) → IsIn v (slice_index_or round p []) → IsLive l (suc p) v
  pub brought : (v : ℕ) → IsIn v entering → ArrivesIn parameters l map v
  pub brings : (v : ℕ) → ArrivesIn parameters l map v → IsIn v entering
  pub saved_once : (p : ℕ) → NoTwice (slice_index_or round p [])
  pub brought_once : NoTwice entering

-- slots and arrays

-- a parameter needs a slot, and so does what is kept in one, or is saved round a call
pub data SlotNeeded (parameters : List ℕ) (map : RegMap) (saved : List (List ℕ)) (v : ℕ) : Type 0 where
  is_passed : IsIn v parameters → SlotNeeded parameters map saved v
  is_kept : (k : ℕ) → kept_of map v ≡ InSlot k → SlotNeeded parameters map saved v
  is_saved : (p : ℕ) → IsIn v (slice_index_or saved p []) → SlotNeeded parameters map saved v

-- the slots of those values: words of the frame behind the link, before a word, each for one value
pub record SlotsStand (Needs : ℕ → Type 0) (slots : List ℕ) (end : ℕ) : Type 0 where
  pub from : (v : ℕ) → Needs v → 1 ≤ slice_index_or slots v 0
  pub to : (v : ℕ) → Needs v → slice_index_or slots v 0 < end
  pub apart : (u v : ℕ) → Needs u → Needs v → slice_index_or slots u 0 ≡ slice_index_or slots v 0 → u ≡ v

-- the arrays: globals at their addresses, the others one after the other in the frame between two words
pub record ArraysStand (arrays : List Array) (addresses begins : List ℕ) (from end : ℕ) : Type 0 where
  pub globals : (a : ℕ) (array : Array) → slice_get arrays a ≡ Some array → a < length addresses → slice_index_or begins a 0 ≡ slice_index_or addresses a 0
  pub own_from : (a : ℕ) (array : Array) → slice_get arrays a ≡ Some array → length addresses ≤ a → from ≤ slice_index_or begins a 0
  pub own_to : (a : ℕ) (array : Array) → slice_get arrays a ≡ Some array → length addresses ≤ a → slice_index_or begins a 0 + array.words ≤ end
  pub own_apart : (a b : ℕ) (array other : Array) → slice_get arrays a ≡ Some array → slice_get arrays b ≡ Some other → length addresses ≤ a → a < b → slice_index_or begins a 0 + array.words ≤ slice_index_or begins b 0

-- the frame: the link in its first word, slots behind it, and then arrays, with no word more than these take
pub record IsFrameOf (graph : Graph) (l : VWords) (map : RegMap) (addresses : List ℕ) (frame : FunctionFrame) : Type 0 where
  pub saves : SavesIn graph.parameters l map frame.saved frame.brought
  pub between : ℕ
  pub behind_link : 1 ≤ between
  pub slots : SlotsStand (SlotNeeded graph.parameters map frame.saved) frame.slots between
  pub arrays : ArraysStand graph.arrays addresses frame.arrays between frame.words
  pub within : between ≤ frame.words
  pub size : HasSize (MayNeedSlot graph.parameters l map) (length addresses) graph.arrays frame.words
