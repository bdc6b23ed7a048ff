-- What is saved round calls and which values need slots; and frames, where slots and arrays have places of their own.
use Rattle.std.specs.Prelude.{◌≡◌, ◌≢◌, ◌<◌, ◌≤◌, ◌+◌, ◌==◌, ℕ, suc, ℤ, pos, true, if◌then◌else◌, Option, Some, List, length, slice_get}
use Rattle.vx_flow.specs.declared.graph.Array.{Array}
use Rattle.vx_flow.specs.declared.graph.Flow.{Flow}
use Rattle.vx_flow.specs.declared.graph.Operand.{Operand}
use Rattle.vx_flow.specs.Effects.{IsIn}
use Rattle.vx_room.specs.Items.{latency_of_op}
use Rattle.vx_mixed.specs.declared.layout.VirtualWord.TheVariants.{Call}
use Rattle.vx_mixed.specs.Settled.{NoTwice}
use Rattle.vx_regs.specs.Intervals.{IsLive, IsBusy}
use Rattle.vx_regs.specs.declared.map.Kept.TheVariants.{InRegister}
use Rattle.vx_target.specs.Target.{Target, parameters_of, is_slotted, kept}
use Rattle.vx_target.specs.Tied.{IsResult, words_before}

-- what is saved

abbrev pub CallsAt : Target → (function place called : ℕ) → List Operand → Option ℕ → Type 0
CallsAt T f p g arguments result = slice_get (T.layout f).words p ≡ Some (Call g arguments result)

-- the value is live behind a call, is not its result, and is in a register
pub record Survives (T : Target) (f p : ℕ) (result : Option ℕ) (v : ℕ) : Type 0 where
  pub live : IsLive (T.layout f) (suc p) v
  pub other : IsResult result v → ⊥
  pub number : ℕ
  pub register : kept T f v ≡ InRegister number

-- the value is a parameter that is live at the entry, and is in a register
pub record Arrives (T : Target) (f v : ℕ) : Type 0 where
  pub passed : IsIn v (parameters_of T f)
  pub live : IsLive (T.layout f) (T.layout f).entry v
  pub number : ℕ
  pub register : kept T f v ≡ InRegister number

-- exactly those are saved round a call, and exactly these brought to their registers
pub record IsSaved (T : Target) (f : ℕ) : Type 0 where
  pub saved : (p g v : ℕ) (arguments : List Operand) (result : Option ℕ) → CallsAt T f p g arguments result → IsIn v (T.saved f p) → Survives T f p result v
  pub saves : (p g v : ℕ) (arguments : List Operand) (result : Option ℕ) → CallsAt T f p g arguments result → Survives T f p result v → IsIn v (T.saved f p)
  pub brought : (v : ℕ) → IsIn v (T.brought f) → Arrives T f v
  pub brings : (v : ℕ) → Arrives T f v → IsIn v (T.brought f)
  pub saved_once : (p : ℕ) → NoTwice (T.saved f p)
  pub brought_once : NoTwice (T.brought f)

-- frames

-- a parameter needs a slot, and so does what is kept in one, or is saved round a call
pub data NeedsSlot (T : Target) (f v : ℕ) : Type 0 where
  is_passed : IsIn v (parameters_of T f) → NeedsSlot T f v
  is_spilled : (p : ℕ) → IsBusy (latency_of_op T.machine) (T.layout f) p v → is_slotted (kept T f v) ≡ true → NeedsSlot T f v
  is_saved : (p g : ℕ) (arguments : List Operand) (result : Option ℕ) → CallsAt T f p g arguments result → IsIn v (T.saved f p) → NeedsSlot T f v

-- array a of the function has a word i
pub record HasWord (T : Target) (f a i : ℕ) : Type 0 where
  pub array : Array
  pub is : slice_get (T.graph f).arrays a ≡ Some array
  pub below : i < array.words

-- in the frame the link is the first word; slots and the function's own arrays follow, apart from each other
pub record IsFramed (T : Target) (flow : Flow) (f : ℕ) : Type 0 where
  pub slot_from : (v : ℕ) → NeedsSlot T f v → 1 ≤ T.slot f v
  pub slot_to : (v : ℕ) → NeedsSlot T f v → T.slot f v < T.frame
  pub slots : (u v : ℕ) → NeedsSlot T f u → NeedsSlot T f v → T.slot f u ≡ T.slot f v → u ≡ v
  pub own_from : (a i : ℕ) → length flow.globals ≤ a → HasWord T f a i → 1 ≤ T.array_at f a
  pub own_to : (a i : ℕ) → length flow.globals ≤ a → HasWord T f a i → T.array_at f a + i < T.frame
  pub own_end : (a : ℕ) (array : Array) → length flow.globals ≤ a → slice_get (T.graph f).arrays a ≡ Some array → T.array_at f a + array.words ≤ T.frame
  pub own_apart : (a b i j : ℕ) → length flow.globals ≤ a → length flow.globals ≤ b → HasWord T f a i → HasWord T f b j → T.array_at f a + i ≡ T.array_at f b + j → (a ≡ b) × (i ≡ j)
  pub slot_own : (v a i : ℕ) → NeedsSlot T f v → length flow.globals ≤ a → HasWord T f a i → T.slot f v ≢ T.array_at f a + i
  pub globals : (a : ℕ) → a < length flow.globals → T.array_at f a ≡ words_before flow.globals a

-- a word of a global at the start: the first is its number, the others are 0
abbrev pub first_or_zero : ℤ → ℕ → ℤ
first_or_zero n i = if i == 0 then n else pos 0
