-- Marks of the values of which facts of a list tell, each at the remainder of its number, so that a list tells of no value that is not
-- marked. A table that is too short has all marks.
use Rattle.std.specs.Prelude.{◌≡◌, ℕ, ◌==◌, ◌%◌, Bool, true, false, ◌&&◌, ◌||◌, List, [], ◌∷◌, slice_index_or, slice_set}
use Rattle.std.specs.List.{list_any}
use Rattle.vx_base.specs.declared.arithmetic.Code.{Code}
use Rattle.vx_base.specs.declared.arithmetic.Code.TheVariants.{Add, Sub, Mov, Mpylu}
use Rattle.vx_flow.specs.declared.graph.Operand.{Operand}
use Rattle.vx_flow.specs.declared.graph.Operand.TheVariants.{Held, Number, Stack}
use Rattle.vx_flow.specs.Sound.{is_value}
use Rattle.vx_claims.specs.declared.fact.Fact.{Fact}
use Rattle.vx_claims.specs.declared.fact.Fact.TheVariants.{Between, Congruent, Equals, Never}
use Rattle.vx_claims.specs.Facts.{names}

abbrev pub most_marks : ℕ
most_marks = 512

abbrev pub is_marked : List Bool → ℕ → Bool
is_marked marks v = slice_index_or marks (v % most_marks) true

abbrev pub is_number : Operand → Bool
is_number (Number n) = true
is_number x = false

-- whether a fact on what such an operation gives tells more of a value than that: it was moved, it is a sum of a value and a number, or
-- it is the low half of a product
abbrev pub is_link : Code → Operand → Bool
is_link Mov b = true
is_link Mpylu b = true
is_link Add b = is_number b
is_link Sub b = is_number b
is_link code b = false

-- whether a fact tells where a value lies or what its low bits are, or links it with others
abbrev pub links : ℕ → Fact → Bool
links v (Between u i) = u == v
links v (Congruent u c) = u == v
links v (Equals u code a b) = is_link code b && (u == v)
links v Never = false

-- whether it is on what an operation gives that reads a value
abbrev pub reads : ℕ → Fact → Bool
reads v (Between u i) = false
reads v (Congruent u c) = false
reads v (Equals u code a b) = is_value v a || is_value v b
reads v Never = false

-- each value of which a fact of the list tells so is marked
abbrev pub Covers : List Bool → (ℕ → Fact → Bool) → List Fact → Type 0
Covers marks tells fs = (v : ℕ) → list_any (tells v) fs ≡ true → is_marked marks v ≡ true

-- three tables of marks
pub record Marked (name_marks read_marks link_marks : List Bool) (fs : List Fact) : Type 0 where
  pub named : Covers name_marks names fs
  pub read : Covers read_marks reads fs
  pub linked : Covers link_marks links fs

-- the tables with the marks of a fact

abbrev pub value_marked : ℕ → List Bool → List Bool
value_marked v marks = slice_set marks (v % most_marks) true

abbrev pub operand_marked : Operand → List Bool → List Bool
operand_marked (Held v) marks = value_marked v marks
operand_marked (Number n) marks = marks
operand_marked Stack marks = marks

abbrev pub value_marked_if : Bool → ℕ → List Bool → List Bool
value_marked_if true v marks = value_marked v marks
value_marked_if false v marks = marks

abbrev pub name_marked : Fact → List Bool → List Bool
name_marked (Between v i) marks = value_marked v marks
name_marked (Congruent v c) marks = value_marked v marks
name_marked (Equals v code a b) marks = operand_marked b (operand_marked a (value_marked v marks))
name_marked Never marks = marks

abbrev pub read_marked : Fact → List Bool → List Bool
read_marked (Between v i) marks = marks
read_marked (Congruent v c) marks = marks
read_marked (Equals v code a b) marks = operand_marked b (operand_marked a marks)
read_marked Never marks = marks

abbrev pub link_marked : Fact → List Bool → List Bool
link_marked (Between v i) marks = value_marked v marks
link_marked (Congruent v c) marks = value_marked v marks
link_marked (Equals v code a b) marks = value_marked_if (is_link code b) v marks
link_marked Never marks = marks

-- the same of all facts of a list
abbrev pub all_marked : (Fact → List Bool → List Bool) → List Fact → List Bool → List Bool
all_marked mark [] marks = marks
all_marked mark (f ∷ fs) marks = all_marked mark fs (mark f marks)

-- every test that a fact of the one list passes, one of the other passes

abbrev pub IsPart : List Fact → List Fact → Type 0
IsPart fs gs = (p : Fact → Bool) → list_any p fs ≡ true → list_any p gs ≡ true

-- the operand is a value of which no fact tells where it lies, what its low bits are, or how it is linked with others
abbrev pub IsUnlinked : List Fact → Operand → Type 0
IsUnlinked fs (Held v) = list_any (links v) fs ≡ false
IsUnlinked fs (Number n) = ⊥
IsUnlinked fs Stack = ⊥

-- the operand is a value, and no fact is on an operation that reads it
abbrev pub IsUnread : List Fact → Operand → Type 0
IsUnread fs (Held v) = list_any (reads v) fs ≡ false
IsUnread fs (Number n) = ⊥
IsUnread fs Stack = ⊥
