-- The slots of marked values and the arrays of a frame, one after the other.
use Rattle.std.specs.Prelude.{◌≡◌, ◌≤◌, ◌⊎◌, ◌+◌, ℕ, suc, Bool, true, false, List, [], ◌∷◌, ◌++◌, length}
use Rattle.vx_flow.specs.declared.graph.Array.{Array}
use Rattle.vx_flow.specs.Effects.{IsIn}
use Rattle.vx_regs.specs.declared.map.Kept.{Kept}
use Rattle.vx_regs.specs.declared.map.Kept.TheVariants.{InRegister, InSlot, Nowhere}
use Rattle.vx_regs.specs.declared.map.RegMap.{RegMap}
use Rattle.vx_regs.specs.Marks.{is_marked, Marks}
use Rattle.vx_calls.specs.Bounds.{HasSize}
use Rattle.vx_calls.specs.Framing.{SlotNeeded, SlotsStand, ArraysStand}

-- marks

-- these values are marked, besides what was marked, and no others
pub record MarksJust (values : List ℕ) (old new : List Bool) : Type 0 where
  pub marks : Marks values old new
  pub only : (v : ℕ) → is_marked new v ≡ true → (is_marked old v ≡ true) ⊎ IsIn v values

-- so far, where some of the values are left
pub record Marking (values left : List ℕ) (old new : List Bool) : Type 0 where
  pub named : (v : ℕ) → IsIn v values → (is_marked new v ≡ true) ⊎ IsIn v left
  pub kept : (v : ℕ) → is_marked old v ≡ true → is_marked new v ≡ true
  pub only : (v : ℕ) → is_marked new v ≡ true → (is_marked old v ≡ true) ⊎ IsIn v values
  pub among : (v : ℕ) → IsIn v left → IsIn v values

-- the values of all lists
abbrev pub joined : List (List ℕ) → List ℕ
joined [] = []
joined (vs ∷ more) = vs ++ joined more

-- the values that are kept in slots, the first of them with a number
abbrev pub in_slots : ℕ → List Kept → List ℕ
in_slots v [] = []
in_slots v (InRegister n ∷ ks) = in_slots (suc v) ks
in_slots v (InSlot k ∷ ks) = v ∷ in_slots (suc v) ks
in_slots v (Nowhere ∷ ks) = in_slots (suc v) ks

-- slots

-- a word of its own for each marked value, from a word on; 0 for the others
abbrev pub slots_from : ℕ → List Bool → List ℕ
slots_from n [] = []
slots_from n (true ∷ marks) = n ∷ slots_from (suc n) marks
slots_from n (false ∷ marks) = 0 ∷ slots_from n marks

-- the word behind them
abbrev pub slots_end : ℕ → List Bool → ℕ
slots_end n [] = n
slots_end n (true ∷ marks) = slots_end (suc n) marks
slots_end n (false ∷ marks) = slots_end n marks

-- arrays

-- those that have an address begin there, the others one after the other from a word on
abbrev pub arrays_from : ℕ → List Array → List ℕ → List ℕ
arrays_from n [] addresses = []
arrays_from n (x ∷ xs) [] = n ∷ arrays_from (n + x.words) xs []
arrays_from n (x ∷ xs) (a ∷ addresses) = a ∷ arrays_from n xs addresses

-- the word behind them
abbrev pub arrays_end : ℕ → List Array → List ℕ → ℕ
arrays_end n [] addresses = n
arrays_end n (x ∷ xs) [] = arrays_end (n + x.words) xs []
arrays_end n (x ∷ xs) (a ∷ addresses) = arrays_end n xs addresses

-- slots and arrays of a frame

-- behind the link come the slots of the values that need one, and then the arrays
pub record FrameStands (parameters : List ℕ) (map : RegMap) (saved : List (List ℕ)) (xs : List Array) (addresses offsets begins : List ℕ) (words : ℕ) : Type 0 where
  pub between : ℕ
  pub behind_link : 1 ≤ between
  pub slots : SlotsStand (SlotNeeded parameters map saved) offsets between
  pub arrays : ArraysStand xs addresses begins between words
  pub within : between ≤ words
  pub size : HasSize (SlotNeeded parameters map saved) (length addresses) xs words
