-- What the body of an accepted function names is there: its scalars are among the function's, and each print has an
-- argument for each number.
use Rattle.std.proofs.Common.{◌≡◌, ◌⊎◌, ℕ, zero, suc, ◌+◌, ◌-◌, ◌<◌, ◌≤◌, Bool, true, false, cond, ◌&&◌, ◌||◌, List, [], ◌∷◌, ◌++◌, length, Option, Some, None, refl, sym, subst, inl, inr, arith, ltb-true}
use Rattle.std.specs.Prelude.{slice_get, nat_eq, nat_lt, count_by}
use Rattle.std.specs.List.{list_all}
use Rattle.std.proofs.lemmas.Bool.{eqb-true}
use Rattle.std.proofs.lemmas.List.Recursion.{is_count_by}
use Rattle.vx_ast.specs.declared.tree.Gives.{Gives}
use Rattle.vx_ast.specs.declared.tree.Gives.TheVariants.{Int as GivesInt, Nothing as GivesNothing}
use Rattle.vx_ast.specs.declared.tree.Item.{Item}
use Rattle.vx_ast.specs.declared.tree.Item.TheVariants.{Scalar as ClearScalar, ScalarWith, Array}
use Rattle.vx_ast.specs.declared.tree.First.{First}
use Rattle.vx_ast.specs.declared.tree.First.TheVariants.{Nothing as FirstNothing, Simple as FirstSimple, Items}
use Rattle.vx_ast.specs.declared.tree.Simple.{Simple}
use Rattle.vx_ast.specs.declared.tree.Statement.{Statement, Row_of-Statement, end_of-Statement, more_of-Statement}
use Rattle.vx_ast.specs.declared.tree.Statement.TheVariants.{Empty as AnEmpty, Block', Declaration, Simple as ASimple, Print as APrint, If', IfElse', While', DoWhile', For', Break as ABreak, Continue as AContinue, Return as AReturn, ReturnValue as AReturnValue}
use Rattle.vx_ast.specs.Tree.{Shape, One, Row, Tree, Literal, Local, Global, Element, Unary, Binary, Both, Either, Choice, Apply, ReadInt, MoreInput, NoMore, Then, Hand, Place, InLocal, InGlobal, InElement, Action, Evaluate, Assign, Compound, Increase, Decrease, Code, Nothing, Seq, Empty, Block, Clear, Declare, ClearArray, Simply, Head, Print, If, IfElse, While, DoWhile, For, Break, Continue, Return, ReturnValue, Function, Program}
use Rattle.vx_ast.specs.View.{item_of, items_of, first_of, step_of, code_of, all_of, all_in}
use Rattle.vx_ast.specs.Meaning.{Piece, AByte, ANumber, pieces_of}
use Rattle.vx_ast.specs.Accepted.{Scope, is_in, at_most, below, row_length, can_call, gives_int, names_array, suits, suits_place, suits_whole, suits_action, is_format, is_number, numbers_of, has_numbers, takes_of_row, numbers_taken, arrays_taken, scope_after, suits_test, suits_code, scalars_of, arrays_of, are_all_from, in_force_at_start, suits_function}
use Rattle.vx_lower.specs.Seen.{Sees}
use Rattle.vx_lower.specs.Lowered.{arrays_seen, sees_of, first_value}
use Rattle.vx_lower.specs.Emits.{IsWithin}
use Rattle.vx_lower.specs.Makes.{numbers_in, PlaceWithin, ActionWithin, TestWithin, CodeWithin}
use Rattle.vx_lower.specs.Graphs.{FunctionWithin}
use Rattle.vx_lower.proofs.Base.{and_one, and_two}
use Rattle.vx_lower.proofs.Passing.{length_seen}

-- numbers below a bound

abbrev AllBelow : ℕ → List ℕ → Type 0
AllBelow vars [] = Unit {0}
AllBelow vars (x ∷ xs) = (x < vars) × AllBelow vars xs

either_of : (a b : Bool) → (a || b) ≡ true → (a ≡ true) ⊎ (b ≡ true)
either_of true b e = inl refl
either_of false b e = inr e

below_in : (vars x : ℕ) (xs : List ℕ) → AllBelow vars xs → is_in x xs ≡ true → x < vars
below_in vars x [] h e = absurd (cc)
below_in vars x (y ∷ xs) h e = elim (either_of (nat_eq x y) (is_in x xs) e) [
  | inl a ↦ let s = eqb-true x y a in let b = h.0 in omega arith
  | inr b ↦ below_in vars x xs h.1 b
]

below_front : (vars : ℕ) (xs ys : List ℕ) → AllBelow vars (xs ++ ys) → AllBelow vars xs
below_front vars [] ys h = tt
below_front vars (x ∷ xs) ys h = (h.0, below_front vars xs ys h.1)

below_behind : (vars : ℕ) (xs ys : List ℕ) → AllBelow vars (xs ++ ys) → AllBelow vars ys
below_behind vars [] ys h = h
below_behind vars (x ∷ xs) ys h = below_behind vars xs ys h.1

-- the step of a `for` declares nothing

abbrev pub Steps : Code → Type 0
Steps Nothing = Unit {0}
Steps (Seq a b) = Steps a × Steps b
Steps Empty = Unit {0}
Steps (Block a) = Steps a
Steps (Clear x) = Unit {0}
Steps (Declare x e) = Unit {0}
Steps (ClearArray a) = Unit {0}
Steps (Simply a) = Unit {0}
Steps (Head a) = Unit {0}
Steps (Print format row) = Unit {0}
Steps (If e a) = Steps a
Steps (IfElse e a b) = Steps a × Steps b
Steps (While e a) = Steps a
Steps (DoWhile a e) = Steps a
Steps (For first test step a) = Steps first × (scalars_of step ≡ []) × (arrays_of step ≡ []) × Steps step × Steps a
Steps Break = Unit {0}
Steps Continue = Unit {0}
Steps Return = Unit {0}
Steps (ReturnValue e) = Unit {0}

item_steps : (i : Item) → Steps (item_of i)
item_steps (ClearScalar x) = tt
item_steps (ScalarWith x e) = tt
item_steps (Array a) = tt

items_steps : (is : List Item) → Steps (items_of is)
items_steps [] = tt
items_steps (i ∷ is) = (item_steps i, items_steps is)

first_steps : (first : First) → Steps (first_of first)
first_steps FirstNothing = tt
first_steps (FirstSimple a) = tt
first_steps (Items is) = items_steps is.items

step_steps : (step : Option Simple) → (scalars_of (step_of step) ≡ []) × (arrays_of (step_of step) ≡ []) × Steps (step_of step)
step_steps None = (refl, refl, tt)
step_steps (Some a) = (refl, refl, tt)

mutual
  steps_of : (s : Statement) → Steps (code_of s)
  steps_of AnEmpty = tt
  steps_of (Block' shape all) = steps_all all
  steps_of (Declaration is) = items_steps is.items
  steps_of (ASimple a) = tt
  steps_of (APrint format row) = tt
  steps_of (If' e p a) = steps_of a
  steps_of (IfElse' e p a q b) = (steps_of a, steps_of b)
  steps_of (While' e p a) = steps_of a
  steps_of (DoWhile' p a e) = steps_of a
  steps_of (For' first test step p a) = let s = step_steps step in (first_steps first, s.0, s.1, s.2, steps_of a)
  steps_of ABreak = tt
  steps_of AContinue = tt
  steps_of AReturn = tt
  steps_of (AReturnValue e) = tt

  steps_all : {m : _} (all : Row_of-Statement m) → Steps (all_of all)
  steps_all end_of-Statement = tt
  steps_all (more_of-Statement a rest) = (steps_of a, steps_all rest)

pub steps_in : (ss : List Statement) → Steps (all_in ss)
steps_in [] = tt
steps_in (s ∷ ss) = (steps_of s, steps_in ss)

-- formats

one_more : (piece : Piece) (ps : List Piece) → numbers_in (piece ∷ ps) ≡ cond (is_number piece) (1 + numbers_in ps) (numbers_in ps)
one_more (AByte b) ps = refl
one_more ANumber ps = omega arith

numbers_are : (ps : List Piece) → numbers_in ps ≡ count_by is_number ps
numbers_are ps = is_count_by numbers_in is_number refl one_more ps

-- trees

module _ (p : Program) (sees : Sees) (vars : ℕ) (few : sees.scalars ≤ vars) where
  tree_within : {k : Shape} (sc : Scope) (t : Tree k) → AllBelow sees.scalars sc.scalars → suits p sc t ≡ true → IsWithin vars t
  tree_within sc (Literal z) h e = tt
  tree_within sc (Local x) h e = let l = below_in sees.scalars x sc.scalars h e in omega arith
  tree_within sc (Global a) h e = tt
  tree_within sc (Element a i) h e = tree_within sc i h (and_two (names_array p sc a) (suits p sc i) e)
  tree_within sc (Unary operator a) h e = tree_within sc a h e
  tree_within sc (Binary operator a b) h e = (tree_within sc a h (and_one (suits p sc a) (suits p sc b) e), tree_within sc b h (and_two (suits p sc a) (suits p sc b) e))
  tree_within sc (Both a b) h e = (tree_within sc a h (and_one (suits p sc a) (suits p sc b) e), tree_within sc b h (and_two (suits p sc a) (suits p sc b) e))
  tree_within sc (Either a b) h e = (tree_within sc a h (and_one (suits p sc a) (suits p sc b) e), tree_within sc b h (and_two (suits p sc a) (suits p sc b) e))
  tree_within sc (Choice c a b) h e =
      let d = and_two (suits p sc c) (suits p sc a && suits p sc b) e in
      (tree_within sc c h (and_one (suits p sc c) (suits p sc a && suits p sc b) e), tree_within sc a h (and_one (suits p sc a) (suits p sc b) d), tree_within sc b h (and_two (suits p sc a) (suits p sc b) d))
  tree_within sc (Apply f row) h e = tree_within sc row h (and_two (can_call gives_int (takes_of_row row) (slice_get p.functions f)) (suits p sc row) e)
  tree_within sc ReadInt h e = tt
  tree_within sc MoreInput h e = tt
  tree_within sc NoMore h e = tt
  tree_within sc (Then a rest) h e = (tree_within sc a h (and_one (suits p sc a) (suits p sc rest) e), tree_within sc rest h (and_two (suits p sc a) (suits p sc rest) e))
  tree_within sc (Hand a rest) h e = tree_within sc rest h (and_two (names_array p sc a) (suits p sc rest) e)

  place_within : (sc : Scope) (t : Place) → AllBelow sees.scalars sc.scalars → suits_place p sc t ≡ true → PlaceWithin vars t
  place_within sc (InLocal x) h e = let l = below_in sees.scalars x sc.scalars h e in omega arith
  place_within sc (InGlobal a) h e = tt
  place_within sc (InElement a i) h e = tree_within sc i h (and_two (names_array p sc a) (suits p sc i) e)

  whole_within : (sc : Scope) (t : Tree One) → AllBelow sees.scalars sc.scalars → suits_whole p sc t ≡ true → IsWithin vars t
  whole_within sc (Literal z) h e = tt
  whole_within sc (Local x) h e = tree_within sc (Local x) h e
  whole_within sc (Global a) h e = tt
  whole_within sc (Element a i) h e = tree_within sc (Element a i) h e
  whole_within sc (Unary operator a) h e = tree_within sc a h e
  whole_within sc (Binary operator a b) h e = tree_within sc (Binary operator a b) h e
  whole_within sc (Both a b) h e = tree_within sc (Both a b) h e
  whole_within sc (Either a b) h e = tree_within sc (Either a b) h e
  whole_within sc (Choice c a b) h e = tree_within sc (Choice c a b) h e
  whole_within sc (Apply f row) h e = tree_within sc row h (and_two (can_call (λ gives. true) (takes_of_row row) (slice_get p.functions f)) (suits p sc row) e)
  whole_within sc ReadInt h e = tt
  whole_within sc MoreInput h e = tt

  action_within : (sc : Scope) (a : Action) → AllBelow sees.scalars sc.scalars → suits_action p sc a ≡ true → ActionWithin vars a
  action_within sc (Evaluate x) h e = whole_within sc x h e
  action_within sc (Assign t x) h e = (place_within sc t h (and_one (suits_place p sc t) (suits p sc x) e), tree_within sc x h (and_two (suits_place p sc t) (suits p sc x) e))
  action_within sc (Compound t operator x) h e = (place_within sc t h (and_one (suits_place p sc t) (suits p sc x) e), tree_within sc x h (and_two (suits_place p sc t) (suits p sc x) e))
  action_within sc (Increase t) h e = place_within sc t h e
  action_within sc (Decrease t) h e = place_within sc t h e

  test_within : (sc : Scope) (t : Option (Tree One)) → AllBelow sees.scalars sc.scalars → suits_test p sc t ≡ true → TestWithin vars t
  test_within sc None h e = tt
  test_within sc (Some x) h e = tree_within sc x h e

  -- what is in force behind a statement is below the bound too
  scope_below : (s : Code) (sc : Scope) → AllBelow sees.scalars sc.scalars → AllBelow sees.scalars (scalars_of s) → AllBelow sees.scalars (scope_after s sc).scalars
  scope_below Nothing sc h d = h
  scope_below (Seq a b) sc h d = scope_below b (scope_after a sc) (scope_below a sc h (below_front sees.scalars (scalars_of a) (scalars_of b) d)) (below_behind sees.scalars (scalars_of a) (scalars_of b) d)
  scope_below Empty sc h d = h
  scope_below (Block a) sc h d = h
  scope_below (Clear x) sc h d = (d.0, h)
  scope_below (Declare x e) sc h d = (d.0, h)
  scope_below (ClearArray a) sc h d = h
  scope_below (Simply a) sc h d = h
  scope_below (Head a) sc h d = h
  scope_below (Print format row) sc h d = h
  scope_below (If e a) sc h d = h
  scope_below (IfElse e a b) sc h d = h
  scope_below (While e a) sc h d = h
  scope_below (DoWhile a e) sc h d = h
  scope_below (For first test step a) sc h d = h
  scope_below Break sc h d = h
  scope_below Continue sc h d = h
  scope_below Return sc h d = h
  scope_below (ReturnValue e) sc h d = h

  print_within : (sc : Scope) (format : List ℕ) (row : Tree Row) → AllBelow sees.scalars sc.scalars → ((is_format format && (nat_eq (numbers_of format) (row_length row) && has_numbers row)) && suits p sc row) ≡ true → (numbers_in (pieces_of format) ≤ row_length row) × IsWithin vars row
  print_within sc format row h e =
      let counts = nat_eq (numbers_of format) (row_length row) in
      let a = and_one (is_format format && (counts && has_numbers row)) (suits p sc row) e in
      let b : numbers_of format ≡ row_length row = eqb-true (numbers_of format) (row_length row) (and_one counts (has_numbers row) (and_two (is_format format) (counts && has_numbers row) a)) in
      let c : numbers_in (pieces_of format) ≡ numbers_of format = numbers_are (pieces_of format) in
      (omega arith, tree_within sc row h (and_two (is_format format && (counts && has_numbers row)) (suits p sc row) e))

  gives_within : (gives : Gives) (loops : Bool) (sc : Scope) (x : Tree One) → AllBelow sees.scalars sc.scalars → suits_code p gives loops sc (ReturnValue x) ≡ true → IsWithin vars x
  gives_within GivesInt loops sc x h e = tree_within sc x h e
  gives_within GivesNothing loops sc x h e = absurd (cc)

  code_within : (gives : Gives) (loops : Bool) (sc : Scope) (s : Code) → Steps s → AllBelow sees.scalars sc.scalars → AllBelow sees.scalars (scalars_of s) → AllBelow (length sees.arrays) (arrays_of s) → suits_code p gives loops sc s ≡ true → CodeWithin sees vars s
  code_within gives loops sc Nothing w h d m e = tt
  code_within gives loops sc (Seq a b) w h d m e =
      let da = below_front sees.scalars (scalars_of a) (scalars_of b) d in
      let db = below_behind sees.scalars (scalars_of a) (scalars_of b) d in (
        code_within gives loops sc a w.0 h da (below_front (length sees.arrays) (arrays_of a) (arrays_of b) m) (and_one (suits_code p gives loops sc a) (suits_code p gives loops (scope_after a sc) b) e),
        code_within gives loops (scope_after a sc) b w.1 (scope_below a sc h da) db (below_behind (length sees.arrays) (arrays_of a) (arrays_of b) m) (and_two (suits_code p gives loops sc a) (suits_code p gives loops (scope_after a sc) b) e),
      )
  code_within gives loops sc Empty w h d m e = tt
  code_within gives loops sc (Block a) w h d m e = code_within gives loops sc a w h d m e
  code_within gives loops sc (Clear x) w h d m e = d.0
  code_within gives loops sc (Declare x t) w h d m e = (d.0, tree_within sc t h e)
  code_within gives loops sc (ClearArray a) w h d m e = m.0
  code_within gives loops sc (Simply a) w h d m e = action_within sc a h e
  code_within gives loops sc (Head a) w h d m e = action_within sc a h e
  code_within gives loops sc (Print format row) w h d m e = print_within sc format row h e
  code_within gives loops sc (If t a) w h d m e = (tree_within sc t h (and_one (suits p sc t) (suits_code p gives loops sc a) e), code_within gives loops sc a w h d m (and_two (suits p sc t) (suits_code p gives loops sc a) e))
  code_within gives loops sc (IfElse t a b) w h d m e =
      let r = and_two (suits p sc t) (suits_code p gives loops sc a && suits_code p gives loops sc b) e in (
        tree_within sc t h (and_one (suits p sc t) (suits_code p gives loops sc a && suits_code p gives loops sc b) e),
        code_within gives loops sc a w.0 h (below_front sees.scalars (scalars_of a) (scalars_of b) d) (below_front (length sees.arrays) (arrays_of a) (arrays_of b) m) (and_one (suits_code p gives loops sc a) (suits_code p gives loops sc b) r),
        code_within gives loops sc b w.1 h (below_behind sees.scalars (scalars_of a) (scalars_of b) d) (below_behind (length sees.arrays) (arrays_of a) (arrays_of b) m) (and_two (suits_code p gives loops sc a) (suits_code p gives loops sc b) r),
      )
  code_within gives loops sc (While t a) w h d m e = (tree_within sc t h (and_one (suits p sc t) (suits_code p gives true sc a) e), code_within gives true sc a w h d m (and_two (suits p sc t) (suits_code p gives true sc a) e))
  code_within gives loops sc (DoWhile a t) w h d m e = (code_within gives true sc a w h d m (and_one (suits_code p gives true sc a) (suits p sc t) e), tree_within sc t h (and_two (suits_code p gives true sc a) (suits p sc t) e))
  code_within gives loops sc (For first test step a) w h d m e =
      let inner = scope_after first sc in
      let df = below_front sees.scalars (scalars_of first) (scalars_of a) d in
      let da = below_behind sees.scalars (scalars_of first) (scalars_of a) d in
      let hi = scope_below first sc h df in
      let e2 = and_two (suits_code p gives loops sc first) (suits_test p inner test && (suits_code p gives loops inner step && suits_code p gives true inner a)) e in
      let e3 = and_two (suits_test p inner test) (suits_code p gives loops inner step && suits_code p gives true inner a) e2 in
      let ds : AllBelow sees.scalars (scalars_of step) = subst (AllBelow sees.scalars) (sym w.1) tt in
      let ms : AllBelow (length sees.arrays) (arrays_of step) = subst (AllBelow (length sees.arrays)) (sym w.2) tt in (
        code_within gives loops sc first w.0 h df (below_front (length sees.arrays) (arrays_of first) (arrays_of a) m) (and_one (suits_code p gives loops sc first) (suits_test p inner test && (suits_code p gives loops inner step && suits_code p gives true inner a)) e),
        test_within inner test hi (and_one (suits_test p inner test) (suits_code p gives loops inner step && suits_code p gives true inner a) e2),
        code_within gives loops inner step w.3 hi ds ms (and_one (suits_code p gives loops inner step) (suits_code p gives true inner a) e3),
        code_within gives true inner a w.4 hi da (below_behind (length sees.arrays) (arrays_of first) (arrays_of a) m) (and_two (suits_code p gives loops inner step) (suits_code p gives true inner a) e3),
      )
  code_within gives loops sc Break w h d m e = tt
  code_within gives loops sc Continue w h d m e = tt
  code_within gives loops sc Return w h d m e = tt
  code_within gives loops sc (ReturnValue t) w h d m e = gives_within gives loops sc t h e

-- functions

below_below : (n vars : ℕ) → n ≤ vars → AllBelow vars (below n)
below_below zero vars h = tt
below_below (suc n) vars h = (omega arith, below_below n vars (omega arith))

all_from_below : (first count vars : ℕ) (xs : List ℕ) → first + count ≤ vars → list_all (λ x. at_most first x && nat_lt x (first + count)) xs ≡ true → AllBelow vars xs
all_from_below first count vars [] h e = tt
all_from_below first count vars (x ∷ xs) h e =
    let a = and_one (at_most first x && nat_lt x (first + count)) (list_all (λ x. at_most first x && nat_lt x (first + count)) xs) e in
    let b : x < first + count = ltb-true x (first + count) (and_two (at_most first x) (nat_lt x (first + count)) a) in
    (omega arith, all_from_below first count vars xs h (and_two (at_most first x && nat_lt x (first + count)) (list_all (λ x. at_most first x && nat_lt x (first + count)) xs) e))

pub function_within : (p : Program) (f : Function) → Steps f.body → suits_function p f ≡ true → FunctionWithin (sees_of p f) f
function_within p f steps e =
    let whole = suits_code p f.gives false (in_force_at_start p f) f.body in
    let fits = at_most f.parameters f.scalars && nat_eq f.parameters (numbers_taken f) in
    let scalars = are_all_from f.parameters (f.scalars - f.parameters) (scalars_of f.body) in
    let own = are_all_from (length p.globals + arrays_taken f) (length f.arrays) (arrays_of f.body) in
    let sizes = list_all (nat_lt 0) f.arrays in
    let x0 = and_one (whole && fits) (scalars && (own && sizes)) e in
    let x2 = and_two (whole && fits) (scalars && (own && sizes)) e in
    let x1 = and_one scalars (own && sizes) x2 in
    let x3 = and_one own sizes (and_two scalars (own && sizes) x2) in
    let le : f.parameters < suc f.scalars = ltb-true f.parameters (suc f.scalars) (and_one (at_most f.parameters f.scalars) (nat_eq f.parameters (numbers_taken f)) (and_two whole fits x0)) in
    let le2 : f.parameters + (f.scalars - f.parameters) ≤ f.scalars = omega arith in
    let d = all_from_below f.parameters (f.scalars - f.parameters) f.scalars (scalars_of f.body) le2 (and_two (list_all (λ k. is_in (f.parameters + k) (scalars_of f.body)) (below (f.scalars - f.parameters))) (list_all (λ x. at_most f.parameters x && nat_lt x (f.parameters + (f.scalars - f.parameters))) (scalars_of f.body)) x1) in
    let first = length p.globals + arrays_taken f in
    let many = length_seen p f in
    let m = all_from_below first (length f.arrays) (length (arrays_seen p f)) (arrays_of f.body) (omega arith) (and_two (list_all (λ k. is_in (first + k) (arrays_of f.body)) (below (length f.arrays))) (list_all (λ x. at_most first x && nat_lt x (first + length f.arrays)) (arrays_of f.body)) x3) in
    (omega arith, code_within p (sees_of p f) (first_value f) (omega arith) f.gives false (in_force_at_start p f) f.body steps (below_below f.parameters f.scalars (omega arith)) d m (and_one whole fits x0))
