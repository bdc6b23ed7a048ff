-- Values with their spans of words: when a list keeps them apart in registers, and gives no slot without need.
use Rattle.std.specs.Prelude.{◌≡◌, ◌≢◌, ◌⊎◌, ◌<◌, ◌≤◌, ℕ, zero, suc, Option, Some, List, [], ◌∷◌, ◌+◌, length, map, slice_get, slice_index_or, slice_set}
use Rattle.vx_flow.specs.declared.graph.Bank.{Bank}
use Rattle.vx_flow.specs.declared.graph.Bank.TheVariants.{General, Branch}
use Rattle.vx_flow.specs.Effects.{IsIn}
use Rattle.vx_isa.specs.Numbers.{Numbers}
use Rattle.vx_mixed.specs.Settled.{NoTwice}
use Rattle.vx_regs.specs.declared.map.Kept.{Kept}
use Rattle.vx_regs.specs.declared.map.Kept.TheVariants.{InRegister, InSlot, Nowhere}
use Rattle.vx_regs.specs.declared.spans.Span.{Span}
use Rattle.vx_regs.specs.Mapped.{first_of, end_of, allocatable}

abbrev pub bank_of_file : ℕ → Bank
bank_of_file zero = Branch
bank_of_file (suc n) = General

abbrev pub kept_at : List Kept → ℕ → Kept
kept_at kept v = slice_index_or kept v Nowhere

abbrev pub value_of : Span → ℕ
value_of s = s.value

pub record Covers (s : Span) (place : ℕ) : Type 0 where
  pub below : s.from ≤ place
  pub above : place ≤ s.to

-- at some place of the span of v more spans of its file overlap than the file has registers
pub record Full (m : Numbers) (spans : List Span) (v : ℕ) : Type 0 where
  pub place : ℕ
  pub crowd : List Span
  pub own : Span
  pub is_own : IsIn own spans
  pub own_value : own.value ≡ v
  pub own_covers : Covers own place
  pub known : (s : Span) → IsIn s crowd → IsIn s spans
  pub filed : (s : Span) → IsIn s crowd → s.file ≡ own.file
  pub covers : (s : Span) → IsIn s crowd → Covers s place
  pub once : NoTwice (map value_of crowd)
  pub more : allocatable m (bank_of_file own.file) < length crowd

-- where values are kept that have these spans: those of a file that overlap in different registers, and in different slots those
-- for which a file is full
pub record Scanned (m : Numbers) (spans : List Span) (kept : List Kept) : Type 0 where
  pub placed : (s : Span) → IsIn s spans → kept_at kept s.value ≢ Nowhere
  pub registers : (s : Span) (n : ℕ) → IsIn s spans → kept_at kept s.value ≡ InRegister n → (first_of m (bank_of_file s.file) ≤ n) × (n < end_of m (bank_of_file s.file))
  pub apart : (s t : Span) (place n : ℕ) → IsIn s spans → IsIn t spans → s.value ≢ t.value → s.file ≡ t.file → Covers s place → Covers t place → kept_at kept s.value ≡ InRegister n → kept_at kept t.value ≢ InRegister n
  pub slots : (u v k : ℕ) → kept_at kept u ≡ InSlot k → kept_at kept v ≡ InSlot k → u ≡ v
  pub forced : (v k : ℕ) → kept_at kept v ≡ InSlot k → Full m spans v
  pub only : (v n : ℕ) → kept_at kept v ≡ InRegister n → (s : Span) × (s.value ≡ v) × IsIn s spans

-- spans of which none begins before the one above it in its file
abbrev pub Rising : (file from : ℕ) → List Span → Type 0
Rising file from [] = Unit {0}
Rising file from (s ∷ spans) = ((file < s.file) ⊎ ((file ≡ s.file) × (from ≤ s.from))) × Rising s.file s.from spans

-- each value has one span, and is kept nowhere yet, by a list with a place for it
pub record Scannable (spans : List Span) (kept : List Kept) : Type 0 where
  pub rising : Rising 0 0 spans
  pub once : NoTwice (map value_of spans)
  pub inside : (s : Span) → IsIn s spans → s.value < length kept
  pub nowhere : (v : ℕ) → kept_at kept v ≡ Nowhere
  pub proper : (s : Span) → IsIn s spans → s.from ≤ s.to

-- one span ends behind another, or with it, and its value is the lower one
abbrev pub Outlasts : Span → Span → Type 0
Outlasts s t = (t.to < s.to) ⊎ ((t.to ≡ s.to) × (s.value < t.value))

-- the holder of each register of a file, if there is one

pub record Holds (held : List (Option Span)) (i : ℕ) (s : Span) : Type 0 where
  pub holder : slice_get held i ≡ Some (Some s)

-- a register is free from a place on
pub record FreeFrom (held : List (Option Span)) (place i : ℕ) : Type 0 where
  pub is_register : i < length held
  pub ended : (s : Span) → Holds held i s → s.to < place

-- each register is held by a span that goes on to a place
pub record AllHeld (held : List (Option Span)) (place : ℕ) : Type 0 where
  pub all : (i : ℕ) → i < length held → (s : Span) × (Holds held i s) × (place ≤ s.to)

-- What a span gets: a register that is free where it begins; where none is, the one that outlasts all goes to a slot, and its
-- register to the new one.
pub data Gives (span : Span) (first : ℕ) (held : List (Option Span)) (kept : List Kept) (next : ℕ) (new_held : List (Option Span)) (new_kept : List Kept) (new_next : ℕ) : Type 0 where
  takes : (i : ℕ) → FreeFrom held span.from i → new_held ≡ slice_set held i (Some span) → new_kept ≡ slice_set kept span.value (InRegister (first + i)) → new_next ≡ next → Gives span first held kept next new_held new_kept new_next
  refused : AllHeld held span.from → ((i : ℕ) (s : Span) → Holds held i s → Outlasts s span → ⊥) → new_held ≡ held → new_kept ≡ slice_set kept span.value (InSlot next) → new_next ≡ suc next → Gives span first held kept next new_held new_kept new_next
  evicts : (i : ℕ) (old : Span) → AllHeld held span.from → Holds held i old → Outlasts old span → ((j : ℕ) (s : Span) → Holds held j s → Outlasts s old → ⊥) → new_held ≡ slice_set held i (Some span) → new_kept ≡ slice_set (slice_set kept old.value (InSlot next)) span.value (InRegister (first + i)) → new_next ≡ suc next → Gives span first held kept next new_held new_kept new_next

-- the registers of a file are taken up, those of another one free
pub record TurnsTo (m : Numbers) (number file : ℕ) (held new_held : List (Option Span)) : Type 0 where
  pub same : number ≡ file → new_held ≡ held
  pub other : number ≢ file → length new_held ≡ allocatable m (bank_of_file number)
  pub free : number ≢ file → (i : ℕ) (s : Span) → Holds new_held i s → ⊥
