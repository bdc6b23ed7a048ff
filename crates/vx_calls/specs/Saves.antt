-- The lists of what is saved round the calls of a layout, and of what is brought at its entry, by the answers of liveness.
use Rattle.std.specs.Prelude.{◌+◌, ◌==◌, ◌&&◌, not, ℕ, Bool, false, if◌then◌else◌, Option, Some, None, List, [], ◌∷◌, ◌++◌}
use Rattle.std.specs.List.{flat_map, list_any}
use Rattle.vx_mixed.specs.declared.layout.VirtualWord.{VirtualWord}
use Rattle.vx_mixed.specs.declared.layout.VirtualWord.TheVariants.{Planned, Drain, Transfer, Choice, Call, Return, Ends}
use Rattle.vx_regs.specs.declared.map.Kept.{Kept}
use Rattle.vx_regs.specs.declared.map.Kept.TheVariants.{InRegister, InSlot, Nowhere}
use Rattle.vx_regs.specs.declared.liveness.Living.{Living}
use Rattle.vx_regs.specs.Ways.{lives_there}

-- the values that are in registers, ascending

abbrev pub in_register : ℕ → Kept → List ℕ
in_register v (InRegister number) = v ∷ []
in_register v (InSlot word) = []
in_register v Nowhere = []

-- where the first of these is value v
abbrev pub in_registers : ℕ → List Kept → List ℕ
in_registers v [] = []
in_registers v (kept ∷ rest) = in_register v kept ++ in_registers (v + 1) rest

-- those of some values that are live behind a call and are not its result

abbrev pub is_result : Option ℕ → ℕ → Bool
is_result None v = false
is_result (Some result) v = result == v

abbrev pub survives : Living → (next : ℕ) → Option ℕ → ℕ → Bool
survives living next result v = not (is_result result v) && lives_there living next v

abbrev pub survivor : Living → (next : ℕ) → Option ℕ → ℕ → List ℕ
survivor living next result v = if survives living next result v then v ∷ [] else []

abbrev pub saved_round : Living → List ℕ → (next : ℕ) → VirtualWord → List ℕ
saved_round living values next (Planned r w items) = []
saved_round living values next (Drain n) = []
saved_round living values next (Transfer to) = []
saved_round living values next (Choice test to) = []
saved_round living values next (Call g arguments result) = flat_map (survivor living next result) values
saved_round living values next (Return x) = []
saved_round living values next (Ends k) = []

-- for each of some words, the first of which stands at a place
abbrev pub saved_from : Living → List ℕ → (place : ℕ) → List VirtualWord → List (List ℕ)
saved_from living values place [] = []
saved_from living values place (word ∷ words) = saved_round living values (place + 1) word ∷ saved_from living values (place + 1) words

-- those of some values that are live at the entry and are parameters

abbrev pub arrives : Living → (entry : ℕ) → List ℕ → ℕ → Bool
arrives living entry parameters v = lives_there living entry v && list_any (λ u. u == v) parameters

abbrev pub arrival : Living → (entry : ℕ) → List ℕ → ℕ → List ℕ
arrival living entry parameters v = if arrives living entry parameters v then v ∷ [] else []
