-- Laws of seats: a table of seats follows from where frames and arrays are, and each step of a run keeps it.
use Rattle.std.specs.Prelude.{◌≡◌, ◌≤◌, ◌+◌, ◌*◌, ℕ, ℤ, true, Option, Some, List, ◌∷◌, ◌++◌, length, map, take, slice_set}
use Rattle.vx_flow.specs.declared.graph.Flow.{Flow}
use Rattle.vx_flow.specs.Effects.{Content, IsIn}
use Rattle.vx_flow.specs.Meaning.{undefined, own_of}
use Rattle.vx_flow.specs.Sound.{is_sound_flow}
use Rattle.vx_isa.specs.Machine.{stored}
use Rattle.vx_mixed.specs.declared.layout.VWords.{VWords}
use Rattle.vx_target.specs.Target.{Target}
use Rattle.vx_target.specs.Tied.{Stacked, WasPassed, HasCell, IsFunction, IsStack, Seated, row_in, seat}
use Rattle.vx_target.specs.Seats.{HasFrames, Framed, Seats}
use Rattle.vx_seats.specs.Arrays.{Arrays}

-- rows that are seated in a stack above the globals
pub record InStack (T : Target) (flow : Flow) (ls : List VWords) (from : ℕ) (stack : List Stacked) (rows : List (List Content)) (memory : ℕ → ℤ) : Type 0 where
  pub stacked : IsStack T flow ls from (length rows) stack
  pub above : T.globals ≤ from
  pub seated : Seated T flow.globals stack rows memory

-- where rows are seated in a stack, they have the table
abbrev pub TableLaw : Type 0
TableLaw =
    (T : Target) (flow : Flow) (ls : List VWords) → is_sound_flow flow ≡ true → HasFrames T flow ls → (from : ℕ) (stack : List Stacked) (rows : List (List Content)) (memory : ℕ → ℤ) → InStack T flow ls from stack rows memory →
    Seats T (length flow.globals) stack rows memory (seat T flow.globals stack)

-- a store to one word of one row, of whatever activation or global, at that word of its seat
abbrev pub with_word : List (List Content) → (k i : ℕ) → ℤ → List (List Content)
with_word rows k i n = slice_set rows k (slice_set (row_in rows k) i (Some n))

abbrev pub StoreLaw : Type 0
StoreLaw =
    (T : Target) (flow : Flow) (ls : List VWords) → is_sound_flow flow ≡ true → HasFrames T flow ls → (from : ℕ) (stack : List Stacked) (rows : List (List Content)) (memory : ℕ → ℤ) → InStack T flow ls from stack rows memory →
    (k i : ℕ) (n : ℤ) → HasCell rows k i → InStack T flow ls from stack (with_word rows k i n) (stored memory (4 * (seat T flow.globals stack k + i)) n)

-- a store to the link, or to the slot of a value, of whatever activation
abbrev pub SlotLaw : Type 0
SlotLaw =
    (T : Target) (flow : Flow) (ls : List VWords) → is_sound_flow flow ≡ true → HasFrames T flow ls → (from : ℕ) (stack : List Stacked) (rows : List (List Content)) (memory : ℕ → ℤ) → InStack T flow ls from stack rows memory →
    (x : Stacked) (word : ℕ) (n : ℤ) → IsIn x stack → Framed T x word → InStack T flow ls from stack rows (stored memory (4 * word) n)

-- a function is entered: its frame is the one below, its own arrays, undefined, are the rows behind those that were there, and what is
-- passed to it are rows in front of these
abbrev pub EnteredLaw : Type 0
EnteredLaw =
    (T : Target) (flow : Flow) (ls : List VWords) → is_sound_flow flow ≡ true → HasFrames T flow ls → (from : ℕ) (stack : List Stacked) (rows : List (List Content)) (memory : ℕ → ℤ) → InStack T flow ls (from + T.frame) stack rows memory →
    (g : ℕ) (passed : List (Option ℕ)) → IsFunction T flow ls g → WasPassed T (length flow.globals) (record { function = g; frame = from; passed = passed; base = length rows }) → T.globals ≤ from →
    InStack T flow ls from (record { function = g; frame = from; passed = passed; base = length rows } ∷ stack) (rows ++ map undefined (own_of (length flow.globals) (T.graph g))) memory

-- and it returns: its rows go
abbrev pub ReturnedLaw : Type 0
ReturnedLaw =
    (T : Target) (flow : Flow) (ls : List VWords) → is_sound_flow flow ≡ true → HasFrames T flow ls → (from : ℕ) (x : Stacked) (stack : List Stacked) (rows : List (List Content)) (memory : ℕ → ℤ) → InStack T flow ls from (x ∷ stack) rows memory →
    InStack T flow ls (from + T.frame) stack (take x.base rows) memory

-- the arrays of each activation then stand in memory
abbrev pub ArraysLaw : Type 0
ArraysLaw =
    (T : Target) (flow : Flow) (ls : List VWords) → is_sound_flow flow ≡ true → HasFrames T flow ls → (from : ℕ) (stack : List Stacked) (rows : List (List Content)) (memory : ℕ → ℤ) → InStack T flow ls from stack rows memory →
    (x : Stacked) → IsIn x stack → Arrays T (length flow.globals) memory (seat T flow.globals stack) x rows
