-- What a form stands for, and when two accesses can name one word.
use Rattle.std.specs.Prelude.{◌≡◌, ◌⊎◌, ℕ, ◌^◌, ℤ, pos, ◌+ℤ◌, ◌*ℤ◌, Bool, true, ◌&&◌, ◌||◌, not, nat_lt, nat_eq, Option, Some, List, [], ◌∷◌, slice_get}
use Rattle.std.specs.List.{list_all}
use Rattle.std.specs.Ordering.{int_eq}
use Rattle.vx_flow.specs.Apart.{AreApart}
use Rattle.vx_linear.specs.declared.form.Symbol.{Symbol}
use Rattle.vx_linear.specs.declared.form.Symbol.TheVariants.{Entry, Made, EntryPlace, MadePlace}
use Rattle.vx_linear.specs.declared.form.Term.{Term}
use Rattle.vx_linear.specs.declared.form.Form.{Form}

-- the sum of the terms, for whole numbers of the symbols
abbrev pub sum_at : (Symbol → ℤ) → List Term → ℤ
sum_at s [] = pos 0
sum_at s (t ∷ ts) = t.factor *ℤ s t.symbol +ℤ sum_at s ts

-- what the form is, up to multiples of 2 ^ 32
abbrev pub value_at : (Symbol → ℤ) → Form → ℤ
value_at s f = f.constant +ℤ sum_at s f.terms

-- both indices name one place: a place is 4 times the index, so they are equal up to a multiple of 2 ^ 30
pub record Meet (s : Symbol → ℤ) (a b : Form) : Type 0 where
  pub multiple : ℤ
  pub equal : value_at s a ≡ value_at s b +ℤ multiple *ℤ pos (2 ^ 30)

-- the arrays are apart, or no numbers of the symbols make both places equal
abbrev pub NeverSame : Form → Form → Type 0
NeverSame a b = AreApart a.array b.array ⊎ ((s : Symbol → ℤ) → Meet s a b → ⊥)

-- the same array, and equal forms. The number alone is not enough: of two arrays of one number, one with a base and one the
-- function's own, the law above says that they are apart, and no answer may be both
pub record AlwaysSame (a b : Form) : Type 0 where
  pub together : AreApart a.array b.array → ⊥
  pub array : a.array.named ≡ b.array.named
  pub constant : a.constant ≡ b.constant
  pub terms : a.terms ≡ b.terms

-- the order of symbols

abbrev pub kind_of : Symbol → ℕ
kind_of (Entry v) = 0
kind_of (Made i) = 1
kind_of (EntryPlace v) = 2
kind_of (MadePlace i) = 3

abbrev pub number_of : Symbol → ℕ
number_of (Entry v) = v
number_of (Made i) = i
number_of (EntryPlace v) = v
number_of (MadePlace i) = i

abbrev pub is_before : Symbol → Symbol → Bool
is_before x y = nat_lt (kind_of x) (kind_of y) || (nat_eq (kind_of x) (kind_of y) && nat_lt (number_of x) (number_of y))

abbrev pub is_same : Symbol → Symbol → Bool
is_same x y = nat_eq (kind_of x) (kind_of y) && nat_eq (number_of x) (number_of y)

abbrev pub is_before_all : Symbol → List Term → Bool
is_before_all x ts = list_all (λ t. is_before x t.symbol) ts

-- the symbols ascend, each once and with a factor other than 0
abbrev pub is_ordered : List Term → Bool
is_ordered [] = true
is_ordered (t ∷ ts) = (not (int_eq t.factor (pos 0)) && is_before_all t.symbol ts) && is_ordered ts

-- so they do in each form of a row
abbrev pub AreOrdered : List (Option Form) → Type 0
AreOrdered forms = (i : ℕ) (form : Form) → slice_get forms i ≡ Some (Some form) → is_ordered form.terms ≡ true
