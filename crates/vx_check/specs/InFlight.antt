-- What may be in flight where a word is issued, as the check finds it: at each place a list of writes, and one list of those that a
-- return may carry to every place.
use Rattle.std.specs.Prelude.{◌≡◌, ◌⊎◌, ◌<◌, ◌≤◌, ℕ, ◌+◌, Bool, true, false, List, [], ◌∷◌, Some, length, max, not, ◌&&◌, ◌||◌, nat_lt, if◌then◌else◌}
use Rattle.vx_base.specs.Paths.{After, Reached}
use Rattle.vx_tables.specs.Rows.{IsIn, is_marked, row_at, work}
use Rattle.vx_isa.specs.declared.operation.Register.{Register}
use Rattle.vx_isa.specs.declared.operation.Operation.{Operation}
use Rattle.vx_isa.specs.declared.operation.Operation.TheVariants.{Goto, BranchOn, Call, Return, EndByTrap, Halt}
use Rattle.vx_isa.specs.declared.program.Word.{Word}
use Rattle.vx_isa.specs.declared.program.WordProgram.{WordProgram}
use Rattle.vx_isa.specs.Numbers.{Numbers}
use Rattle.vx_isa.specs.Operations.{same, is_zero, destination_of, is_call, latency_of}
use Rattle.vx_isa.specs.Machine.{cycles_of}
use Rattle.vx_isa.specs.Paths.{Among, Leads, ReadsAt, WritesAt, cycles_at}
use Rattle.vx_check.specs.declared.in_flight.InFlight.{InFlight}

-- where the operations of a word lead: to every place, or to these; `next` is the place behind the word
abbrev pub leads_anywhere : List Operation → Bool
leads_anywhere [] = false
leads_anywhere (Goto p ∷ ops) = false
leads_anywhere (BranchOn t w p ∷ ops) = leads_anywhere ops
leads_anywhere (Call p ∷ ops) = false
leads_anywhere (Return ∷ ops) = true
leads_anywhere (EndByTrap k ∷ ops) = false
leads_anywhere (Halt a ∷ ops) = false
leads_anywhere (op ∷ ops) = leads_anywhere ops

abbrev pub places_of : List Operation → (next : ℕ) → List ℕ
places_of [] next = next ∷ []
places_of (Goto p ∷ ops) next = p ∷ []
places_of (BranchOn t w p ∷ ops) next = p ∷ places_of ops next
places_of (Call p ∷ ops) next = p ∷ []
places_of (Return ∷ ops) next = []
places_of (EndByTrap k ∷ ops) next = []
places_of (Halt a ∷ ops) next = []
places_of (op ∷ ops) next = places_of ops next

-- the places that are reached

-- a mark for each of so many places, all the same
pub record IsFilled (places : ℕ) (mark : Bool) (row : List Bool) : Type 0 where
  pub len : length row ≡ places
  pub set : mark ≡ true → (q : ℕ) → q < places → is_marked row q ≡ true
  pub unset : mark ≡ false → (q : ℕ) → is_marked row q ≡ true → ⊥

-- marks and places that wait to be followed, on the way: each mark is reached, and what a marked place leads to is marked unless the
-- place waits
pub record Reaching (w : WordProgram) (marks : List Bool) (waiting : List ℕ) : Type 0 where
  pub len : length marks ≡ length w.words
  pub sound : (q : ℕ) → is_marked marks q ≡ true → Reached (Leads w) 0 q
  pub waits : (q : ℕ) → IsIn q waiting → is_marked marks q ≡ true
  pub closed : (p q : ℕ) → is_marked marks p ≡ true → Leads w p q → IsIn p waiting ⊎ (is_marked marks q ≡ true)
  pub begun : 0 < length marks → is_marked marks 0 ≡ true

-- places are marked that were not, and wait
pub record Marked (places : List ℕ) (marks marks' : List Bool) (waiting waiting' : List ℕ) : Type 0 where
  pub len : length marks' ≡ length marks
  pub keeps : (q : ℕ) → is_marked marks q ≡ true → is_marked marks' q ≡ true
  pub waits : (q : ℕ) → IsIn q waiting → IsIn q waiting'
  pub anew : (q : ℕ) → is_marked marks' q ≡ true → (is_marked marks q ≡ true) ⊎ (IsIn q waiting' × IsIn q places)
  pub came : (q : ℕ) → IsIn q waiting' → IsIn q waiting ⊎ (is_marked marks' q ≡ true)
  pub all : (q : ℕ) → IsIn q places → q < length marks → is_marked marks' q ≡ true
  pub less : work marks' waiting' ≤ work marks waiting

-- the marks are those of the places that are reached
pub record ReachedMarks (w : WordProgram) (marks : List Bool) : Type 0 where
  pub len : length marks ≡ length w.words
  pub sound : (q : ℕ) → is_marked marks q ≡ true → Reached (Leads w) 0 q
  pub whole : (q : ℕ) → Reached (Leads w) 0 q → q < length marks → is_marked marks q ≡ true

-- lists of writes

-- the most cycles that a write to the register in the list needs, 0 where there is none
abbrev pub left_of : List InFlight → Register → ℕ
left_of [] r = 0
left_of (x ∷ xs) r = max (if same x.to r then x.left else 0) (left_of xs r)

-- a list has what it had and what another one has, and nothing else
pub record Joins (before out after : List InFlight) : Type 0 where
  pub grows : (r : Register) → left_of before r ≤ left_of after r
  pub has : (r : Register) → left_of out r ≤ left_of after r
  pub only : (x : InFlight) → IsIn x after → IsIn x before ⊎ IsIn x out

-- the same at each of some places
pub record JoinsAt (places : List ℕ) (out : List InFlight) (before after : List (List InFlight)) : Type 0 where
  pub len : length after ≡ length before
  pub grows : (q : ℕ) (r : Register) → left_of (row_at before q) r ≤ left_of (row_at after q) r
  pub has : (q : ℕ) (r : Register) → IsIn q places → q < length before → left_of out r ≤ left_of (row_at after q) r
  pub only : (q : ℕ) (x : InFlight) → IsIn x (row_at after q) → IsIn x (row_at before q) ⊎ (IsIn q places × IsIn x out)

-- a list joins another one where the word may lead to every place, else it stays
pub record JoinsIf (everywhere : Bool) (before out after : List InFlight) : Type 0 where
  pub grows : (r : Register) → left_of before r ≤ left_of after r
  pub has : everywhere ≡ true → (r : Register) → left_of out r ≤ left_of after r
  pub only : (x : InFlight) → IsIn x after → IsIn x before ⊎ ((everywhere ≡ true) × IsIn x out)

-- what a word of these operations leaves in flight goes to where it leads
pub record Spread (ops : List Operation) (next : ℕ) (out : List InFlight) (at : List (List InFlight)) (anywhere : List InFlight) (at' : List (List InFlight)) (anywhere' : List InFlight) : Type 0 where
  pub places : JoinsAt (places_of ops next) out at at'
  pub everywhere : JoinsIf (leads_anywhere ops) anywhere out anywhere'

-- a write of a row needs so many cycles more than this one of the same register, which needs some
pub record IsCarried (cycles : ℕ) (row : List InFlight) (x : InFlight) : Type 0 where
  pub from : InFlight
  pub here : IsIn from row
  pub to_is : from.to ≡ x.to
  pub some : 1 ≤ x.left
  pub lands : x.left + cycles ≡ from.left

-- an operation writes the register, which is no register 0, and needs so many cycles more than this write, which needs some
pub record IsMade (m : Numbers) (cycles : ℕ) (ops : List Operation) (x : InFlight) : Type 0 where
  pub op : Operation
  pub here : Among op ops
  pub writes : destination_of op ≡ Some x.to
  pub real : is_zero x.to ≡ false
  pub no_call : is_call op ≡ false
  pub some : 1 ≤ x.left
  pub lands : x.left + cycles ≡ latency_of m op

-- a list gains what the writes of a row need when so many cycles have passed
pub record Carries (cycles : ℕ) (row before after : List InFlight) : Type 0 where
  pub grows : (r : Register) → left_of before r ≤ left_of after r
  pub has : (r : Register) → left_of row r ≤ left_of after r + cycles
  pub only : (x : InFlight) → IsIn x after → IsIn x before ⊎ IsCarried cycles row x

-- and what the writes of some operations need
pub record Makes (m : Numbers) (cycles : ℕ) (ops : List Operation) (before after : List InFlight) : Type 0 where
  pub grows : (r : Register) → left_of before r ≤ left_of after r
  pub has : (op : Operation) (r : Register) → Among op ops → destination_of op ≡ Some r → is_zero r ≡ false → is_call op ≡ false →
      latency_of m op ≤ left_of after r + cycles
  pub only : (x : InFlight) → IsIn x after → IsIn x before ⊎ IsMade m cycles ops x

-- what may be in flight behind a word at which the writes of a row may be
pub record Leaves (m : Numbers) (word : Word) (row out : List InFlight) : Type 0 where
  pub carried : (r : Register) → left_of row r ≤ left_of out r + cycles_of word
  pub made : (op : Operation) (r : Register) → Among op word.ops → destination_of op ≡ Some r → is_zero r ≡ false → is_call op ≡ false →
      latency_of m op ≤ left_of out r + cycles_of word
  pub only : (x : InFlight) → IsIn x out → IsCarried (cycles_of word) row x ⊎ IsMade m (cycles_of word) word.ops x

-- the tables

-- when the word at a place is issued a write made on a path to it may need so many cycles still
pub record IsDue (m : Numbers) (w : WordProgram) (q : ℕ) (x : InFlight) : Type 0 where
  pub writer : ℕ
  pub latency : ℕ
  pub since : ℕ
  pub reached : Reached (Leads w) 0 writer
  pub writes : WritesAt m w writer x.to latency
  pub path : After (Leads w) (cycles_at w) writer since q
  pub some : 1 ≤ x.left
  pub lands : x.left + since ≤ latency

-- the most cycles that a write to a register may need when the word at a place is issued, by the tables
abbrev pub hot : (at : List (List InFlight)) (anywhere : List InFlight) → ℕ → Register → ℕ
hot at anywhere q r = max (left_of (row_at at q) r) (left_of anywhere r)

-- each entry has its write
pub record AreDue (m : Numbers) (w : WordProgram) (at : List (List InFlight)) (anywhere : List InFlight) : Type 0 where
  pub len : length at ≡ length w.words
  pub there : (q : ℕ) (x : InFlight) → IsIn x (row_at at q) → IsDue m w q x
  pub everywhere : (q : ℕ) (x : InFlight) → q < length w.words → IsIn x anywhere → IsDue m w q x

-- the tables after the word at a place has passed on what it may leave in flight
pub record Passed (m : Numbers) (w : WordProgram) (p : ℕ) (at : List (List InFlight)) (anywhere : List InFlight) (at' : List (List InFlight)) (anywhere' : List InFlight) : Type 0 where
  pub grows : (q : ℕ) (r : Register) → hot at anywhere q r ≤ hot at' anywhere' q r
  pub steps : (q : ℕ) (r : Register) → Leads w p q → hot at anywhere p r ≤ hot at' anywhere' q r + cycles_at w p
  pub fresh : (q : ℕ) (r : Register) (l : ℕ) → Leads w p q → WritesAt m w p r l → l ≤ hot at' anywhere' q r + cycles_at w p

-- and after each word that is reached has
pub record AllPassed (m : Numbers) (w : WordProgram) (at : List (List InFlight)) (anywhere : List InFlight) (at' : List (List InFlight)) (anywhere' : List InFlight) : Type 0 where
  pub grows : (q : ℕ) (r : Register) → hot at anywhere q r ≤ hot at' anywhere' q r
  pub steps : (p q : ℕ) (r : Register) → Reached (Leads w) 0 p → Leads w p q → hot at anywhere p r ≤ hot at' anywhere' q r + cycles_at w p
  pub fresh : (p q : ℕ) (r : Register) (l : ℕ) → Reached (Leads w) 0 p → Leads w p q → WritesAt m w p r l → l ≤ hot at' anywhere' q r + cycles_at w p

-- the tables tell of every path of so many cycles at most
abbrev pub TellWithin : Numbers → WordProgram → ℕ → (at : List (List InFlight)) (anywhere : List InFlight) → Type 0
TellWithin m w n at anywhere =
    (p q : ℕ) (r : Register) (l c : ℕ) → Reached (Leads w) 0 p → WritesAt m w p r l → After (Leads w) (cycles_at w) p c q → c ≤ n → l ≤ hot at anywhere q r + c

-- and of every path
abbrev pub Tell : Numbers → WordProgram → (at : List (List InFlight)) (anywhere : List InFlight) → Type 0
Tell m w at anywhere =
    (p q : ℕ) (r : Register) (l c : ℕ) → Reached (Leads w) 0 p → WritesAt m w p r l → After (Leads w) (cycles_at w) p c q → l ≤ hot at anywhere q r + c

-- by two lists a write to the register, which is no register 0, may be in flight
abbrev pub is_hot : (row anywhere : List InFlight) → Register → Bool
is_hot row anywhere r = not (is_zero r) && (nat_lt 0 (left_of row r) || nat_lt 0 (left_of anywhere r))

-- the word at a place reads a register to which by the tables a write may be in flight
abbrev pub IsHot : WordProgram → (at : List (List InFlight)) (anywhere : List InFlight) → ℕ → Type 0
IsHot w at anywhere q = (r : Register) × ReadsAt w q r × (1 ≤ hot at anywhere q r)
