-- The numbers of an accepted program stay numbers of 32 bits, from a store in range to every part's end.
use Rattle.std.proofs.Common.{◌≡◌, ◌<◌, ◌≤◌, ◌+◌, ◌-◌, nat_eq, ◌^◌, ◌⊎◌, ℕ, zero, suc, ℤ, pos, negsuc, Bool, true, false, ◌&&◌, nat_lt, List, [], ◌∷◌, length, map, replicate, slice_index_or, slice_get, Option, Some, None, refl, sym, subst, arith, lit<, inl, inr, ltb-true}
use Rattle.std.specs.Prelude.{if◌then◌else◌, slice_set}
use Rattle.std.specs.List.{All, list_all}
use Rattle.std.proofs.lemmas.Bool.{cases_lt}
use Rattle.std.proofs.lemmas.List.{get_or_past}
use Rattle.std.proofs.lemmas.List.Elements.{All-nil, All-cons, All-head, All-tail, All-set, All-append, All-take, All-map, All-replicate, All-get_or}
use Rattle.vx_base.specs.Arithmetic.{IsNumber, sum_of, difference_of, product_of, one_if}
use Rattle.vx_base.specs.declared.arithmetic.Compare.TheVariants.{Eq, Ne, Lt, Le, Gt, Ge}
use Rattle.vx_base.specs.declared.arithmetic.Code.TheVariants.{Add, Sub, And, Or, Xor, Shl, Shr, ToGeneral, Div, Rem}
use Rattle.vx_base.specs.declared.outcome.Trap.{Trap}
use Rattle.vx_base.specs.declared.outcome.Trap.TheVariants.{Divide as ByDivide}
use Rattle.vx_base.proofs.WrapLaws.{wrap_fits}
use Rattle.vx_base.proofs.ArithmeticLaws.{value_fits_law}
use Rattle.vx_ast.specs.declared.tree.UnaryOperator.{UnaryOperator}
use Rattle.vx_ast.specs.declared.tree.UnaryOperator.TheVariants.{Minus, Plus, Not, Complement}
use Rattle.vx_ast.specs.declared.tree.BinaryOperator.{BinaryOperator}
use Rattle.vx_ast.specs.declared.tree.BinaryOperator.TheVariants.{Multiply, Divide, Remainder, Add as Plus_of, Subtract, ShiftLeft, ShiftRight, Less, LessEqual, Greater, GreaterEqual, Equal, NotEqual, BitAnd, BitXor, BitOr}
use Rattle.vx_ast.specs.Tree.{Shape, One, Row, Tree, Literal, Local, Global, Element, Unary, Binary, Both, Either, Choice, Apply, ReadInt, MoreInput, NoMore, Then, Hand, Place, InLocal, InGlobal, InElement, Action, Evaluate, Assign, Compound, Increase, Decrease, Code, Nothing, Seq, Empty, Block, Clear, Declare, ClearArray, Simply, Head, Print, If, IfElse, While, DoWhile, For, Break, Continue, Return, ReturnValue, Function, Program}
use Rattle.vx_ast.specs.Meaning.{Store, Part, With, Trapped, Going, Leaves, Falls, Breaks, Continues, Returns, Calls, Argument, ArrayArgument, numbers_given, arrays_given, and_then, unless_zero, array_at, word_at, with_word, cleared, with_scalar, at_index, index_in, unary_value, binary_value, divides, combined, next_input, is_left, value, changes, acts, pieces_of, printed, prints, go_on, after_body, after_turn, tests, turns, turns_first, test_of, does, spot_in, back_in, result_of, entered, activate, active, deepest, words_at_start, at_start, outcome_of}
use Rattle.vx_ast.specs.declared.tree.Gives.{Gives}
use Rattle.vx_ast.specs.declared.tree.Gives.TheVariants.{Int as GivesInt, Nothing as GivesNothing}
use Rattle.vx_ast.specs.declared.tree.GlobalVariable.{GlobalVariable}
use Rattle.vx_ast.specs.declared.tree.GlobalVariable.TheVariants.{Scalar as ScalarGlobal, Array as ArrayGlobal}
use Rattle.vx_ast.specs.Accepted.{in_force_at_start, at_most, are_all_from, scalars_of, arrays_of, is_format, numbers_of, suits_global, is_suited, is_none, limit_of, is_main, is_accepted, Scope, is_word, row_length, has_numbers, takes_of_row, numbers_taken, arrays_taken, can_call, gives_int, names_array, suits, suits_place, suits_whole, suits_action, suits_test, suits_code, scope_after, suits_function}
use Rattle.vx_ast.specs.Range.{InRange, PartInRange, ValueInRange, LeavesInRange, ResultInRange, SourceStaysInRange}

both_hold : (a b : Bool) → (a && b) ≡ true → (a ≡ true) × (b ≡ true)
both_hold true b h = (refl, h)
both_hold false b h = cc

zero_fits : IsNumber (pos 0)
zero_fits = record { sfits = lit< tt }

one_fits : IsNumber (pos 1)
one_fits = record { sfits = lit< tt }

least_fits : IsNumber (negsuc 0)
least_fits = record { sfits = lit< tt }

pub literal_fits : (z : ℤ) → is_word z ≡ true → IsNumber z
literal_fits (pos n) h = let k : n < 2 ^ 31 = ltb-true n (2 ^ 31) h in record { sfits = omega arith }
literal_fits (negsuc n) h = let k : n < 2 ^ 31 = ltb-true n (2 ^ 31) h in record { sfits = omega arith }

-- operators

pub unary_fits : (operator : UnaryOperator) (x : ℤ) → IsNumber x → IsNumber (unary_value operator x)
unary_fits Minus x f = value_fits_law Sub (pos 0) x zero_fits f
unary_fits Plus x f = f
unary_fits Not x f = value_fits_law (ToGeneral Eq) x (pos 0) f zero_fits
unary_fits Complement x f = value_fits_law Xor x (negsuc 0) f least_fits

product_fits : (x y : ℤ) → IsNumber (product_of x y)
unfolding product_of
product_fits x y = wrap_fits _

pub binary_fits : (operator : BinaryOperator) (x y : ℤ) → IsNumber x → IsNumber y → IsNumber (binary_value operator x y)
binary_fits Multiply x y f g = product_fits x y
binary_fits Divide x y f g = value_fits_law Div x y f g
binary_fits Remainder x y f g = value_fits_law Rem x y f g
binary_fits Plus_of x y f g = value_fits_law Add x y f g
binary_fits Subtract x y f g = value_fits_law Sub x y f g
binary_fits ShiftLeft x y f g = value_fits_law Shl x y f g
binary_fits ShiftRight x y f g = value_fits_law Shr x y f g
binary_fits Less x y f g = value_fits_law (ToGeneral Lt) x y f g
binary_fits LessEqual x y f g = value_fits_law (ToGeneral Le) x y f g
binary_fits Greater x y f g = value_fits_law (ToGeneral Gt) x y f g
binary_fits GreaterEqual x y f g = value_fits_law (ToGeneral Ge) x y f g
binary_fits Equal x y f g = value_fits_law (ToGeneral Eq) x y f g
binary_fits NotEqual x y f g = value_fits_law (ToGeneral Ne) x y f g
binary_fits BitAnd x y f g = value_fits_law And x y f g
binary_fits BitXor x y f g = value_fits_law Xor x y f g
binary_fits BitOr x y f g = value_fits_law Or x y f g

-- parts

pub then_fits : {A B : Type 0} (P : A → Type 0) (Q : B → Type 0) (x : Part A) (f : A → Store → Part B) → PartInRange P x → ((a : A) (t : Store) → P a → InRange t → PartInRange Q (f a t)) → PartInRange Q (and_then x f)
then_fits P Q (With a s) f h k = k a s h.0 h.1
then_fits P Q (Trapped trap out) f h k = tt
then_fits P Q (Going out) f h k = tt

pub unless_fits : {A : Type 0} (P : A → Type 0) (z : ℤ) (a b : Part A) → PartInRange P a → PartInRange P b → PartInRange P (unless_zero z a b)
unless_fits P (pos zero) a b f g = g
unless_fits P (pos (suc n)) a b f g = f
unless_fits P (negsuc n) a b f g = f

combined_if : (b : Bool) (z v : ℤ) (s : Store) (k : Trap) → IsNumber v → InRange s → PartInRange IsNumber (if b then unless_zero z (With v s) (Trapped k s.out) else With v s)
combined_if true z v s k f r = unless_fits IsNumber z (With v s) (Trapped k s.out) (f, r) tt
combined_if false z v s k f r = (f, r)

pub combined_fits : (operator : BinaryOperator) (x y : ℤ) (s : Store) → IsNumber x → IsNumber y → InRange s → PartInRange IsNumber (combined operator x y s)
combined_fits operator x y s f g r = combined_if (divides operator) y (binary_value operator x y) s ByDivide (binary_fits operator x y f g) r

truth_fits : (b : Bool) → IsNumber (one_if b)
truth_fits true = one_fits
truth_fits false = zero_fits

as_truth : (y : ℤ) → IsNumber (unless_zero y (pos 1) (pos 0))
as_truth (pos zero) = zero_fits
as_truth (pos (suc n)) = one_fits
as_truth (negsuc n) = one_fits

-- the store

at_or : {X : Type 0} (P : X → Type 0) (xs : List X) (i : ℕ) (d : X) → P d → All P xs → P (slice_index_or xs i d)
at_or P xs i d f h = by (cases_lt i (length xs))
  where
    by : (i < length xs) ⊎ (length xs ≤ i) → P (slice_index_or xs i d)
    by (inl l) = All-get_or P xs i d l h
    by (inr l) = subst P (sym (get_or_past xs i d l)) f

pub array_fits : (s : Store) (a : ℕ) → InRange s → All IsNumber (array_at s a)
array_fits s a r = at_or (All IsNumber) s.arrays a [] (All-nil IsNumber) r.arrays

pub word_fits : (s : Store) (a i : ℕ) → InRange s → IsNumber (word_at s a i)
word_fits s a i r = at_or IsNumber (array_at s a) i (pos 0) zero_fits (array_fits s a r)

pub with_word_fits : (s : Store) (a i : ℕ) (v : ℤ) → InRange s → IsNumber v → InRange (with_word s a i v)
with_word_fits s a i v r f = record {
  scalars = r.scalars;
  arrays = All-set (All IsNumber) s.arrays a (slice_set (array_at s a) i v) (All-set IsNumber (array_at s a) i v f (array_fits s a r)) r.arrays;
  input = r.input;
}

pub cleared_fits : (s : Store) (a : ℕ) → InRange s → InRange (cleared s a)
cleared_fits s a r = record {
  scalars = r.scalars;
  arrays = All-set (All IsNumber) s.arrays a (map (λ z. pos 0) (array_at s a)) (All-map IsNumber (λ z. pos 0) (array_at s a) (λ k d l. zero_fits)) r.arrays;
  input = r.input;
}

scalar_if : (b : Bool) (v w : ℤ) → IsNumber v → IsNumber w → IsNumber (if b then v else w)
scalar_if true v w f g = f
scalar_if false v w f g = g

pub with_scalar_fits : (s : Store) (x : ℕ) (v : ℤ) → InRange s → IsNumber v → InRange (with_scalar s x v)
with_scalar_fits s x v r f = record { scalars = λ y. scalar_if _ v (s.scalars y) f (r.scalars y); arrays = r.arrays; input = r.input }

pub entered_fits : (f : Function) (args : List Argument) (s : Store) → All IsNumber (numbers_given args) → InRange s → InRange (entered f args s)
entered_fits f args s h r = record {
  scalars = λ x. at_or IsNumber (numbers_given args) x (pos 0) zero_fits h;
  arrays = All-append (All IsNumber) s.arrays (map (λ size. replicate size (pos 0)) f.arrays) r.arrays (All-map (All IsNumber) (λ size. replicate size (pos 0)) f.arrays (λ k d l. All-replicate IsNumber (slice_index_or f.arrays k d) (pos 0) zero_fits));
  input = r.input;
}

index_fits : {A : Type 0} (P : A → Type 0) (o : Option ℕ) (s : Store) (f : ℕ → Part A) → ((i : ℕ) → PartInRange P (f i)) → PartInRange P (at_index o s f)
index_fits P None s f h = tt
index_fits P (Some i) s f h = h i

input_fits : (xs : List ℤ) (s : Store) → All IsNumber xs → InRange s → PartInRange IsNumber (next_input xs s)
input_fits [] s h r = tt
input_fits (x ∷ xs) s h r = (All-head IsNumber x xs h, record { scalars = r.scalars; arrays = r.arrays; input = All-tail IsNumber x xs h })

-- expressions

abbrev pub CallsInRange : Calls → Type 0
CallsInRange calls = (f : ℕ) (xs : List Argument) (s : Store) → All IsNumber (numbers_given xs) → InRange s → PartInRange IsNumber (calls f xs s)

module _ (p : Program) (spot : ℕ → ℕ) (calls : Calls) (kept : CallsInRange calls) where
  pub value_fits : {k : Shape} (sc : Scope) (e : Tree k) (s : Store) → suits p sc e ≡ true → InRange s → PartInRange (ValueInRange k) (value spot calls e s)
  value_fits sc (Literal z) s h r = (literal_fits z h, r)
  value_fits sc (Local x) s h r = (r.scalars x, r)
  value_fits sc (Global a) s h r = (word_fits s (spot a) 0 r, r)
  value_fits sc (Element a i) s h r =
      then_fits IsNumber IsNumber (value spot calls i s) _ (value_fits sc i s (both_hold (names_array p sc a) (suits p sc i) h).1 r)
      (λ index t f q. index_fits IsNumber (index_in (length (array_at t (spot a))) index) t (λ j. With (word_at t (spot a) j) t) (λ j. (word_fits t (spot a) j q, q)))
  value_fits sc (Unary operator a) s h r = then_fits IsNumber IsNumber (value spot calls a s) _ (value_fits sc a s h r) (λ x t f q. (unary_fits operator x f, q))
  value_fits sc (Binary operator a b) s h r =
      let g = both_hold (suits p sc a) (suits p sc b) h in
      then_fits IsNumber IsNumber (value spot calls a s) _ (value_fits sc a s g.0 r)
      (λ x t f q. then_fits IsNumber IsNumber (value spot calls b t) (λ y u. combined operator x y u) (value_fits sc b t g.1 q) (λ y u i v. combined_fits operator x y u f i v))
  value_fits sc (Both a b) s h r =
      let g = both_hold (suits p sc a) (suits p sc b) h in
      then_fits IsNumber IsNumber (value spot calls a s) _ (value_fits sc a s g.0 r)
      (λ x t f q. unless_fits IsNumber x _ _ (then_fits IsNumber IsNumber (value spot calls b t) _ (value_fits sc b t g.1 q) (λ y u i v. (as_truth y, v))) (zero_fits, q))
  value_fits sc (Either a b) s h r =
      let g = both_hold (suits p sc a) (suits p sc b) h in
      then_fits IsNumber IsNumber (value spot calls a s) _ (value_fits sc a s g.0 r)
      (λ x t f q. unless_fits IsNumber x _ _ (one_fits, q) (then_fits IsNumber IsNumber (value spot calls b t) _ (value_fits sc b t g.1 q) (λ y u i v. (as_truth y, v))))
  value_fits sc (Choice c a b) s h r =
      let g = both_hold (suits p sc c) (suits p sc a && suits p sc b) h in
      let i = both_hold (suits p sc a) (suits p sc b) g.1 in
      then_fits IsNumber IsNumber (value spot calls c s) _ (value_fits sc c s g.0 r) (λ x t f q. unless_fits IsNumber x (value spot calls a t) (value spot calls b t) (value_fits sc a t i.0 q) (value_fits sc b t i.1 q))
  value_fits sc (Apply f row) s h r =
      then_fits (ValueInRange Row) IsNumber (value spot calls row s) _ (value_fits sc row s (both_hold (can_call gives_int (takes_of_row row) (slice_get p.functions f)) (suits p sc row) h).1 r) (λ xs t g q. kept f xs t g q)
  value_fits sc ReadInt s h r = input_fits s.input s r.input r
  value_fits sc MoreInput s h r = (truth_fits (is_left s.input), r)
  value_fits sc NoMore s h r = (All-nil IsNumber, r)
  value_fits sc (Then a rest) s h r =
      let g = both_hold (suits p sc a) (suits p sc rest) h in
      then_fits IsNumber (ValueInRange Row) (value spot calls a s) _ (value_fits sc a s g.0 r)
      (λ x t f q. then_fits (ValueInRange Row) (ValueInRange Row) (value spot calls rest t) _ (value_fits sc rest t g.1 q) (λ xs u i v. (All-cons IsNumber x (numbers_given xs) f i, v)))
  value_fits sc (Hand a rest) s h r =
      then_fits (ValueInRange Row) (ValueInRange Row) (value spot calls rest s) (λ xs u. With (ArrayArgument (spot a) ∷ xs) u) (value_fits sc rest s (both_hold (names_array p sc a) (suits p sc rest) h).1 r) (λ xs u i v. (i, v))

  -- simple statements

  changes_fits : (sc : Scope) (t : Place) (new : ℤ → Store → Part ℤ) (s : Store) → suits_place p sc t ≡ true → ((old : ℤ) (u : Store) → IsNumber old → InRange u → PartInRange IsNumber (new old u)) → InRange s → PartInRange LeavesInRange (changes spot calls t new s)
  changes_fits sc (InLocal x) new s h k r = then_fits IsNumber LeavesInRange (new (s.scalars x) s) _ (k (s.scalars x) s (r.scalars x) r) (λ v t f q. (tt, with_scalar_fits t x v q f))
  changes_fits sc (InGlobal a) new s h k r = then_fits IsNumber LeavesInRange (new (word_at s (spot a) 0) s) _ (k (word_at s (spot a) 0) s (word_fits s (spot a) 0 r) r) (λ v t f q. (tt, with_word_fits t (spot a) 0 v q f))
  changes_fits sc (InElement a i) new s h k r =
      then_fits IsNumber LeavesInRange (value spot calls i s) _ (value_fits sc i s (both_hold (names_array p sc a) (suits p sc i) h).1 r)
      (λ index t f q. index_fits LeavesInRange (index_in (length (array_at t (spot a))) index) t (λ j. and_then (new (word_at t (spot a) j) t) (λ v u. With Falls (with_word u (spot a) j v)))
      (λ j. then_fits IsNumber LeavesInRange (new (word_at t (spot a) j) t) _ (k (word_at t (spot a) j) t (word_fits t (spot a) j q) q) (λ v u g w. (tt, with_word_fits u (spot a) j v w g))))

  whole_fits : (sc : Scope) (e : Tree One) (s : Store) → suits_whole p sc e ≡ true → InRange s → PartInRange IsNumber (value spot calls e s)
  whole_fits sc (Apply f row) s h r =
      then_fits (ValueInRange Row) IsNumber (value spot calls row s) _ (value_fits sc row s (both_hold (can_call (λ gives. true) (takes_of_row row) (slice_get p.functions f)) (suits p sc row) h).1 r) (λ xs t g q. kept f xs t g q)
  whole_fits sc e s h r = value_fits sc e s h r

  pub acts_fits : (sc : Scope) (a : Action) (s : Store) → suits_action p sc a ≡ true → InRange s → PartInRange LeavesInRange (acts spot calls a s)
  acts_fits sc (Evaluate e) s h r = then_fits IsNumber LeavesInRange (value spot calls e s) _ (whole_fits sc e s h r) (λ v t f q. (tt, q))
  acts_fits sc (Assign t e) s h r =
      let g = both_hold (suits_place p sc t) (suits p sc e) h in
      changes_fits sc t (λ old u. value spot calls e u) s g.0 (λ old u f q. value_fits sc e u g.1 q) r
  acts_fits sc (Compound t operator e) s h r =
      let g = both_hold (suits_place p sc t) (suits p sc e) h in
      changes_fits sc t (λ old u. and_then (value spot calls e u) (λ v w. combined operator old v w)) s g.0
      (λ old u f q. then_fits IsNumber IsNumber (value spot calls e u) (λ v w. combined operator old v w) (value_fits sc e u g.1 q) (λ v w i x. combined_fits operator old v w f i x)) r
  acts_fits sc (Increase t) s h r = changes_fits sc t (λ old u. With (sum_of old (pos 1)) u) s h (λ old u f q. (value_fits_law Add old (pos 1) f one_fits, q)) r
  acts_fits sc (Decrease t) s h r = changes_fits sc t (λ old u. With (difference_of old (pos 1)) u) s h (λ old u f q. (value_fits_law Sub old (pos 1) f one_fits, q)) r

-- statements

on_fits : (x : Part Leaves) (f : Store → Part Leaves) → PartInRange LeavesInRange x → ((t : Store) → InRange t → PartInRange LeavesInRange (f t)) → PartInRange LeavesInRange (go_on x f)
on_fits (With Falls s) f h k = k s h.1
on_fits (With Breaks s) f h k = h
on_fits (With Continues s) f h k = h
on_fits (With (Returns r) s) f h k = h
on_fits (Trapped trap out) f h k = tt
on_fits (Going out) f h k = tt

body_fits : (x : Part Leaves) (f : Store → Part Leaves) → PartInRange LeavesInRange x → ((t : Store) → InRange t → PartInRange LeavesInRange (f t)) → PartInRange LeavesInRange (after_body x f)
body_fits (With Falls s) f h k = k s h.1
body_fits (With Breaks s) f h k = h
body_fits (With Continues s) f h k = k s h.1
body_fits (With (Returns r) s) f h k = h
body_fits (Trapped trap out) f h k = tt
body_fits (Going out) f h k = tt

turn_fits : (x : Part Leaves) (f : Store → Part Leaves) → PartInRange LeavesInRange x → ((t : Store) → InRange t → PartInRange LeavesInRange (f t)) → PartInRange LeavesInRange (after_turn x f)
turn_fits (With Falls s) f h k = k s h.1
turn_fits (With Breaks s) f h k = h
turn_fits (With Continues s) f h k = k s h.1
turn_fits (With (Returns r) s) f h k = h
turn_fits (Trapped trap out) f h k = tt
turn_fits (Going out) f h k = tt

tests_fits : (x : Part ℤ) (f g : Store → Part Leaves) → PartInRange IsNumber x → ((t : Store) → InRange t → PartInRange LeavesInRange (f t)) → ((t : Store) → InRange t → PartInRange LeavesInRange (g t)) → PartInRange LeavesInRange (tests x f g)
tests_fits x f g h k l = then_fits IsNumber LeavesInRange x _ h (λ c t i q. unless_fits LeavesInRange c (f t) (g t) (k t q) (l t q))

module _ (test : Store → Part ℤ) (turn : Store → Part Leaves) (tested : (s : Store) → InRange s → PartInRange IsNumber (test s)) (turned : (s : Store) → InRange s → PartInRange LeavesInRange (turn s)) where
  turns_fits : (n : ℕ) (s : Store) → InRange s → PartInRange LeavesInRange (turns n test turn s)
  turns_fits zero s r = tests_fits (test s) (λ t. Going t.out) (λ t. With Falls t) (tested s r) (λ t q. tt) (λ t q. (tt, q))
  turns_fits (suc n) s r = tests_fits (test s) (λ t. after_turn (turn t) (turns n test turn)) (λ t. With Falls t) (tested s r) (λ t q. turn_fits (turn t) (turns n test turn) (turned t q) (turns_fits n)) (λ t q. (tt, q))

  turns_first_fits : (n : ℕ) (s : Store) → InRange s → PartInRange LeavesInRange (turns_first n test turn s)
  turns_first_fits zero s r = tt
  turns_first_fits (suc n) s r =
      turn_fits (turn s) (λ t. tests (test t) (turns_first n test turn) (λ u. With Falls u)) (turned s r)
      (λ t q. tests_fits (test t) (turns_first n test turn) (λ u. With Falls u) (tested t q) (turns_first_fits n) (λ u v. (tt, v)))

prints_fits : (text : List ℕ) (s : Store) → InRange s → InRange (prints text s)
prints_fits text s r = record { scalars = r.scalars; arrays = r.arrays; input = r.input }

-- a function gives a number, where it gives any
returned_suits : (p : Program) (gives : Gives) (loops : Bool) (sc : Scope) (e : Tree One) → suits_code p gives loops sc (ReturnValue e) ≡ true → suits p sc e ≡ true
returned_suits p GivesInt loops sc e h = h
returned_suits p GivesNothing loops sc e h = cc

module _ (p : Program) (spot : ℕ → ℕ) (calls : Calls) (kept : CallsInRange calls) (gives : Gives) (n : ℕ) where
  test_fits : (sc : Scope) (test : Option (Tree One)) (s : Store) → suits_test p sc test ≡ true → InRange s → PartInRange IsNumber (test_of spot calls test s)
  test_fits sc None s h r = (one_fits, r)
  test_fits sc (Some e) s h r = value_fits p spot calls kept sc e s h r

  pub does_fits : (loops : Bool) (sc : Scope) (c : Code) (s : Store) → suits_code p gives loops sc c ≡ true → InRange s → PartInRange LeavesInRange (does spot calls n c s)
  does_fits loops sc Nothing s h r = (tt, r)
  does_fits loops sc (Seq a b) s h r =
      let g = both_hold (suits_code p gives loops sc a) (suits_code p gives loops (scope_after a sc) b) h in
      on_fits (does spot calls n a s) (does spot calls n b) (does_fits loops sc a s g.0 r) (λ t q. does_fits loops (scope_after a sc) b t g.1 q)
  does_fits loops sc Empty s h r = (tt, r)
  does_fits loops sc (Block a) s h r = does_fits loops sc a s h r
  does_fits loops sc (Clear x) s h r = (tt, with_scalar_fits s x (pos 0) r zero_fits)
  does_fits loops sc (Declare x e) s h r = then_fits IsNumber LeavesInRange (value spot calls e s) _ (value_fits p spot calls kept sc e s h r) (λ v t f q. (tt, with_scalar_fits t x v q f))
  does_fits loops sc (ClearArray a) s h r = (tt, cleared_fits s (spot a) r)
  does_fits loops sc (Simply a) s h r = acts_fits p spot calls kept sc a s h r
  does_fits loops sc (Head a) s h r = acts_fits p spot calls kept sc a s h r
  does_fits loops sc (Print format row) s h r =
      then_fits (ValueInRange Row) LeavesInRange (value spot calls row s) _ (value_fits p spot calls kept sc row s (both_hold (is_format format && (nat_eq (numbers_of format) (row_length row) && has_numbers row)) (suits p sc row) h).1 r)
      (λ xs t f q. (tt, prints_fits (printed (pieces_of format) (numbers_given xs)) t q))
  does_fits loops sc (If e a) s h r =
      let g = both_hold (suits p sc e) (suits_code p gives loops sc a) h in
      tests_fits (value spot calls e s) (does spot calls n a) (λ t. With Falls t) (value_fits p spot calls kept sc e s g.0 r) (λ t q. does_fits loops sc a t g.1 q) (λ t q. (tt, q))
  does_fits loops sc (IfElse e a b) s h r =
      let g = both_hold (suits p sc e) (suits_code p gives loops sc a && suits_code p gives loops sc b) h in
      let i = both_hold (suits_code p gives loops sc a) (suits_code p gives loops sc b) g.1 in
      tests_fits (value spot calls e s) (does spot calls n a) (does spot calls n b) (value_fits p spot calls kept sc e s g.0 r) (λ t q. does_fits loops sc a t i.0 q) (λ t q. does_fits loops sc b t i.1 q)
  does_fits loops sc (While e a) s h r =
      let g = both_hold (suits p sc e) (suits_code p gives true sc a) h in
      turns_fits (value spot calls e) (does spot calls n a) (λ t q. value_fits p spot calls kept sc e t g.0 q) (λ t q. does_fits true sc a t g.1 q) n s r
  does_fits loops sc (DoWhile a e) s h r =
      let g = both_hold (suits_code p gives true sc a) (suits p sc e) h in
      turns_first_fits (value spot calls e) (does spot calls n a) (λ t q. value_fits p spot calls kept sc e t g.1 q) (λ t q. does_fits true sc a t g.0 q) n s r
  does_fits loops sc (For first test step a) s h r =
      let inner : Scope = scope_after first sc in
      let g = both_hold (suits_code p gives loops sc first) (suits_test p inner test && (suits_code p gives loops inner step && suits_code p gives true inner a)) h in
      let i = both_hold (suits_test p inner test) (suits_code p gives loops inner step && suits_code p gives true inner a) g.1 in
      let j = both_hold (suits_code p gives loops inner step) (suits_code p gives true inner a) i.1 in
      on_fits (does spot calls n first s) (turns n (test_of spot calls test) (λ t. after_body (does spot calls n a t) (does spot calls n step))) (does_fits loops sc first s g.0 r)
      (turns_fits (test_of spot calls test) (λ t. after_body (does spot calls n a t) (does spot calls n step)) (λ t q. test_fits inner test t i.0 q)
      (λ t q. body_fits (does spot calls n a t) (does spot calls n step) (does_fits true inner a t j.1 q) (λ u v. does_fits loops inner step u j.0 v)) n)
  does_fits loops sc Break s h r = (tt, r)
  does_fits loops sc Continue s h r = (tt, r)
  does_fits loops sc Return s h r = (zero_fits, r)
  does_fits loops sc (ReturnValue e) s h r = then_fits IsNumber LeavesInRange (value spot calls e s) _ (value_fits p spot calls kept sc e s (returned_suits p gives loops sc e h) r) (λ v t f q. (f, q))

-- calls

back_fits : (caller : Store) (v : ℤ) (s : Store) → InRange caller → IsNumber v → InRange s → PartInRange IsNumber (back_in caller v s)
back_fits caller v s c f r = (f, record { scalars = c.scalars; arrays = All-take (All IsNumber) (length caller.arrays) s.arrays r.arrays; input = r.input })

result_fits : (caller : Store) (x : Part Leaves) → InRange caller → PartInRange LeavesInRange x → PartInRange IsNumber (result_of caller x)
result_fits caller (With Falls s) c h = back_fits caller (pos 0) s c zero_fits h.1
result_fits caller (With Breaks s) c h = back_fits caller (pos 0) s c zero_fits h.1
result_fits caller (With Continues s) c h = back_fits caller (pos 0) s c zero_fits h.1
result_fits caller (With (Returns r) s) c h = back_fits caller r s c h.0 h.1
result_fits caller (Trapped k out) c h = tt
result_fits caller (Going out) c h = tt

abbrev Suited : Program → Option Function → Type 0
Suited p None = Unit {0}
Suited p (Some f) = suits_function p f ≡ true

suited_at : (p : Program) (fs : List Function) (i : ℕ) → list_all (suits_function p) fs ≡ true → Suited p (slice_get fs i)
suited_at p [] i h = tt
suited_at p (f ∷ fs) zero h = (both_hold (suits_function p f) (list_all (suits_function p) fs) h).0
suited_at p (f ∷ fs) (suc i) h = suited_at p fs i (both_hold (suits_function p f) (list_all (suits_function p) fs) h).1

body_suits : (p : Program) (f : Function) → suits_function p f ≡ true → suits_code p f.gives false (in_force_at_start p f) f.body ≡ true
body_suits p f h =
    (both_hold (suits_code p f.gives false (in_force_at_start p f) f.body) (at_most f.parameters f.scalars && nat_eq f.parameters (numbers_taken f))
    (both_hold (suits_code p f.gives false (in_force_at_start p f) f.body && (at_most f.parameters f.scalars && nat_eq f.parameters (numbers_taken f)))
    (are_all_from f.parameters (f.scalars - f.parameters) (scalars_of f.body) && (are_all_from (length p.globals + arrays_taken f) (length f.arrays) (arrays_of f.body) && list_all (nat_lt 0) f.arrays)) h).0).0

activate_fits : (p : Program) (o : Option Function) (calls : Calls) → Suited p o → CallsInRange calls → (n : ℕ) (args : List Argument) (s : Store) → All IsNumber (numbers_given args) → InRange s → PartInRange IsNumber (activate (length p.globals) o calls n args s)
activate_fits p None calls h kept n args s i r = tt
activate_fits p (Some f) calls h kept n args s i r =
    result_fits s (does (spot_in (length p.globals) (arrays_given args) (length s.arrays)) calls n f.body (entered f args s)) r
    (does_fits p (spot_in (length p.globals) (arrays_given args) (length s.arrays)) calls kept f.gives n false (in_force_at_start p f) f.body (entered f args s) (body_suits p f h) (entered_fits f args s i r))

-- each call gives a number of 32 bits and leaves such numbers, where it is given such numbers
pub active_fits : (p : Program) (depth n : ℕ) → list_all (suits_function p) p.functions ≡ true → CallsInRange (active p depth n)
active_fits p zero n h f args s i r = tt
active_fits p (suc depth) n h f args s i r = activate_fits p (slice_get p.functions f) (active p depth n) (suited_at p p.functions f h) (active_fits p depth n h) n args s i r

-- programs

global_fits : (g : GlobalVariable) → suits_global g ≡ true → All IsNumber (words_at_start g)
global_fits (ScalarGlobal z) h = All-cons IsNumber z [] (literal_fits z h) (All-nil IsNumber)
global_fits (ArrayGlobal words) h = All-replicate IsNumber words (pos 0) zero_fits

globals_fit : (gs : List GlobalVariable) → list_all suits_global gs ≡ true → All (All IsNumber) (map words_at_start gs)
globals_fit [] h = All-nil (All IsNumber)
globals_fit (g ∷ gs) h =
    let k = both_hold (suits_global g) (list_all suits_global gs) h in
    All-cons (All IsNumber) (words_at_start g) (map words_at_start gs) (global_fits g k.0) (globals_fit gs k.1)

-- what a program that is accepted keeps, apart from its limits
pub accepted_suits : (p : Program) → is_accepted p ≡ true → (list_all (suits_function p) p.functions ≡ true) × (list_all suits_global p.globals ≡ true)
unfolding is_accepted
accepted_suits p h =
    let suited = (both_hold (is_suited p) (is_none (limit_of p)) h).0 in
    both_hold (list_all (suits_function p) p.functions) (list_all suits_global p.globals) (both_hold (list_all (suits_function p) p.functions && list_all suits_global p.globals) (is_main (slice_get p.functions p.main)) suited).0

pub start_fits : (p : Program) (input : List ℤ) → list_all suits_global p.globals ≡ true → All IsNumber input → InRange (at_start p input)
start_fits p input h i = record { scalars = λ x. zero_fits; arrays = globals_fit p.globals h; input = i }

outcome_fits : (x : Part ℤ) → PartInRange IsNumber x → ResultInRange (outcome_of x)
outcome_fits (With r s) h = h.0
outcome_fits (Trapped k out) h = tt
outcome_fits (Going out) h = tt

pub source_fits : SourceStaysInRange
source_fits p input n h i =
    let k = accepted_suits p h in
    outcome_fits (active p deepest n p.main [] (at_start p input)) (active_fits p deepest n k.0 p.main [] (at_start p input) (All-nil IsNumber) (start_fits p input k.1 i))
