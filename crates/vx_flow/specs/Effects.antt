-- What one operation does, wherever it is executed: in a block, in a trace, in a word. It reads in one state and writes
-- onto another, so that the operations of a word can all read what was there before the word.
use Rattle.std.specs.Prelude.{◌≡◌, ◌⊎◌, ℕ, zero, suc, ◌/◌, ◌%◌, ◌==◌, ℤ, pos, negsuc, Bool, true, false, ◌&&◌, nat_lt, if◌then◌else◌, Option, Some, None, List, [], ◌∷◌, ◌++◌, length, slice_index_or, slice_set}
use Rattle.std.specs.Fmt.{signed_decimal}
use Rattle.vx_base.specs.Arithmetic.{value_of, product_of, one_if}
use Rattle.vx_base.specs.declared.arithmetic.Code.{Code}
use Rattle.vx_base.specs.declared.arithmetic.Code.TheVariants.{Mov}
use Rattle.vx_flow.specs.declared.graph.Operand.{Operand}
use Rattle.vx_flow.specs.declared.graph.Operand.TheVariants.{Held, Number, Stack}
use Rattle.vx_flow.specs.declared.graph.Op.{Op}
use Rattle.vx_flow.specs.declared.graph.Op.TheVariants.{Compute, Select, Place, Load, Store, More, Input, Text, Decimal, Across, Base, PlaceIn}
pub use Rattle.vx_tables.specs.Rows.{IsIn}

-- what a value or a word of an array holds: a number, or None where it is undefined, as before it is first written
abbrev pub Content : Type 0
Content = Option ℤ

pub record State : Type 0 where
  pub values : ℕ → Content
  -- the globals, then the own arrays of each active function, the first active one's first
  pub arrays : List (List Content)
  pub input : List ℤ
  pub out : List ℕ

-- what else an operation depends on: where each array that the function sees stands in the list of arrays, and the
-- texts of the program
pub record Setting : Type 0 where
  pub spot : ℕ → ℕ
  pub texts : List (List ℕ)

-- what is read

abbrev pub held : State → Operand → Content
held s (Held v) = s.values v
held s (Number n) = Some n
held s Stack = None

-- a move has its left operand alone
abbrev pub is_unary : Code → Bool
is_unary Mov = true
is_unary code = false

abbrev pub both : (ℤ → ℤ → ℤ) → Content → Content → Content
both f None b = None
both f (Some x) None = None
both f (Some x) (Some y) = Some (f x y)

abbrev pub computed : Code → Content → Content → Content
computed code a b = if is_unary code then a else both (value_of code) a b

-- a test holds where it is 1
abbrev pub is_one : ℤ → Bool
is_one (pos (suc zero)) = true
is_one z = false

abbrev pub chosen : Content → Content → Content → Content
chosen None a b = None
chosen (Some z) a b = if is_one z then a else b

-- the place of the element at an index, in bytes
abbrev pub place_of : Content → Content
place_of None = None
place_of (Some index) = Some (product_of (pos 4) index)

-- the same in an array that was handed over; none where its base is none
abbrev pub place_by : (base index : Content) → Content
place_by None i = None
place_by (Some k) i = place_of i

abbrev pub row_of : State → ℕ → List Content
row_of s a = slice_index_or s.arrays a []

-- the word of an array of so many words that stands at a place: the place is a multiple of 4 inside the array
abbrev pub cell_in : ℕ → Content → Option ℕ
cell_in words None = None
cell_in words (Some (negsuc n)) = None
cell_in words (Some (pos p)) = if (p % 4 == 0) && nat_lt (p / 4) words then Some (p / 4) else None

abbrev pub cell_of : Setting → State → ℕ → Operand → Option ℕ
cell_of setting s a p = cell_in (length (row_of s (setting.spot a))) (held s p)

abbrev pub is_left : List ℤ → Bool
is_left [] = false
is_left (n ∷ ns) = true

abbrev pub text_at : Setting → ℕ → List ℕ
text_at setting number = slice_index_or setting.texts number []

-- what is written, onto t

abbrev pub with_value : State → ℕ → Content → State
with_value t v x = record t { values = λ u. if u == v then x else t.values u }

abbrev pub with_cell : State → ℕ → ℕ → Content → State
with_cell t a i x = record t { arrays = slice_set t.arrays a (slice_set (row_of t a) i x) }

-- a load outside of its array has no meaning, but gives undefined where it may be dismissed
abbrev pub loaded : State → ℕ → List Content → Option ℕ → Bool → Option State
loaded t v row None true = Some (with_value t v None)
loaded t v row None false = None
loaded t v row (Some i) dismissible = Some (with_value t v (slice_index_or row i None))

-- nor has a store outside of its array, or of an undefined number
abbrev pub stored : State → ℕ → Option ℕ → Content → Option State
stored t a None x = None
stored t a (Some i) None = None
stored t a (Some i) (Some n) = Some (with_cell t a i (Some n))

abbrev pub next_input : State → ℕ → List ℤ → Option State
next_input t v [] = None
next_input t v (n ∷ ns) = Some (record (with_value t v (Some n)) { input = ns })

abbrev pub printed : State → List ℕ → Content → Option State
printed t out None = None
printed t out (Some n) = Some (record t { out = out ++ signed_decimal n })

-- the operation reads in s and writes onto t; None where it has no meaning. The base of an array is where it stands, whatever
-- operand it is made from in words
abbrev pub effect : Setting → State → Op → State → Option State
effect setting s (Compute code v a b) t = Some (with_value t v (computed code (held s a) (held s b)))
effect setting s (Select v p a b) t = Some (with_value t v (chosen (s.values p) (held s a) (held s b)))
effect setting s (Place v a i) t = Some (with_value t v (place_of (held s i)))
effect setting s (Load v a p dismissible) t = loaded t v (row_of s (setting.spot a)) (cell_of setting s a p) dismissible
effect setting s (Store a p x) t = stored t (setting.spot a) (cell_of setting s a p) (held s x)
effect setting s (More v) t = Some (with_value t v (Some (one_if (is_left s.input))))
effect setting s (Input v) t = next_input t v s.input
effect setting s (Text n) t = Some (record t { out = s.out ++ text_at setting n })
effect setting s (Decimal x) t = printed t s.out (held s x)
effect setting s (Across v u) t = Some (with_value t v (s.values u))
effect setting s (Base v a x) t = Some (with_value t v (Some (pos (setting.spot a))))
effect setting s (PlaceIn v a u i) t = Some (with_value t v (place_by (s.values u) (held s i)))

-- the same so that it always has a meaning: every load may be dismissed, a store or a printing that has no meaning does
-- nothing, and the number that is read where none is left is undefined

abbrev pub dismissed : Op → Op
dismissed (Load v a p dismissible) = Load v a p true
dismissed op = op

abbrev pub without_meaning : Op → State → State
without_meaning (Input v) t = with_value t v None
without_meaning op t = t

abbrev pub state_or : State → Option State → State
state_or t None = t
state_or t (Some u) = u

abbrev pub calm_effect : Setting → State → Op → State → State
calm_effect setting s op t = state_or (without_meaning op t) (effect setting s (dismissed op) t)

-- which values an operation reads, and which it writes

abbrev pub value_in : Operand → List ℕ
value_in (Held v) = v ∷ []
value_in (Number n) = []
value_in Stack = []

abbrev pub reads : Op → List ℕ
reads (Compute code v a b) = if is_unary code then value_in a else value_in a ++ value_in b
reads (Select v p a b) = p ∷ (value_in a ++ value_in b)
reads (Place v a i) = value_in i
reads (Load v a p dismissible) = value_in p
reads (Store a p x) = value_in p ++ value_in x
reads (More v) = []
reads (Input v) = []
reads (Text n) = []
reads (Decimal x) = value_in x
reads (Across v u) = u ∷ []
reads (Base v a x) = []
reads (PlaceIn v a u i) = value_in i ++ u ∷ []

abbrev pub writes : Op → List ℕ
writes (Compute code v a b) = v ∷ []
writes (Select v p a b) = v ∷ []
writes (Place v a i) = v ∷ []
writes (Load v a p dismissible) = v ∷ []
writes (Store a p x) = []
writes (More v) = v ∷ []
writes (Input v) = v ∷ []
writes (Text n) = []
writes (Decimal x) = []
writes (Across v u) = v ∷ []
writes (Base v a x) = v ∷ []
writes (PlaceIn v a u i) = v ∷ []

-- the locations of a state: its values, the words of its arrays, the input that is left, the output

pub data Location : Type 0 where
  Of : (value : ℕ) → Location
  Cell : (array index : ℕ) → Location
  TheInput : Location
  TheOutput : Location

pub data Datum : Type 0 where
  Holds : Content → Datum
  Left : List ℤ → Datum
  Printed : List ℕ → Datum

abbrev pub at : State → Location → Datum
at s (Of v) = Holds (s.values v)
at s (Cell a i) = Holds (slice_index_or (row_of s a) i None)
at s TheInput = Left s.input
at s TheOutput = Printed s.out

abbrev pub IsOf : List ℕ → Location → Type 0
IsOf values l = (v : ℕ) × IsIn v values × (l ≡ Of v)

abbrev pub IsCell : ℕ → Option ℕ → Location → Type 0
IsCell a None l = ⊥
IsCell a (Some i) l = l ≡ Cell a i

-- what the operation reads besides values, where it is executed in s: a printing reads the output that it goes on from
abbrev pub ReadsBesides : Setting → State → Op → Location → Type 0
ReadsBesides setting s (Compute code v a b) l = ⊥
ReadsBesides setting s (Select v p a b) l = ⊥
ReadsBesides setting s (Place v a i) l = ⊥
ReadsBesides setting s (Load v a p dismissible) l = IsCell (setting.spot a) (cell_of setting s a p) l
ReadsBesides setting s (Store a p x) l = ⊥
ReadsBesides setting s (More v) l = l ≡ TheInput
ReadsBesides setting s (Input v) l = l ≡ TheInput
ReadsBesides setting s (Text n) l = l ≡ TheOutput
ReadsBesides setting s (Decimal x) l = l ≡ TheOutput
ReadsBesides setting s (Across v u) l = ⊥
ReadsBesides setting s (Base v a x) l = ⊥
ReadsBesides setting s (PlaceIn v a u i) l = ⊥

abbrev pub WritesBesides : Setting → State → Op → Location → Type 0
WritesBesides setting s (Compute code v a b) l = ⊥
WritesBesides setting s (Select v p a b) l = ⊥
WritesBesides setting s (Place v a i) l = ⊥
WritesBesides setting s (Load v a p dismissible) l = ⊥
WritesBesides setting s (Store a p x) l = IsCell (setting.spot a) (cell_of setting s a p) l
WritesBesides setting s (More v) l = ⊥
WritesBesides setting s (Input v) l = l ≡ TheInput
WritesBesides setting s (Text n) l = l ≡ TheOutput
WritesBesides setting s (Decimal x) l = l ≡ TheOutput
WritesBesides setting s (Across v u) l = ⊥
WritesBesides setting s (Base v a x) l = ⊥
WritesBesides setting s (PlaceIn v a u i) l = ⊥

abbrev pub ReadsAt : Setting → State → Op → Location → Type 0
ReadsAt setting s op l = IsOf (reads op) l ⊎ ReadsBesides setting s op l

abbrev pub WritesAt : Setting → State → Op → Location → Type 0
WritesAt setting s op l = IsOf (writes op) l ⊎ WritesBesides setting s op l
