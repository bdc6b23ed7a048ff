-- What the body of an accepted function names is there: its scalars and arrays, and the functions that it calls.
use Rattle.std.proofs.Common.{◌≡◌, ◌⊎◌, ℕ, zero, suc, ◌+◌, ◌-◌, ◌<◌, ◌≤◌, Bool, true, false, ◌&&◌, ◌||◌, List, [], ◌∷◌, ◌++◌, length, map, Option, Some, None, refl, sym, ap, ◌∙◌, subst, inl, inr, arith, ltb-true, if◌then◌else◌}
use Rattle.std.specs.Prelude.{slice_get, slice_index_or, nat_eq, nat_lt, option_map}
use Rattle.std.specs.List.{list_all}
use Rattle.std.proofs.lemmas.Bool.{eqb-true}
use Rattle.std.proofs.lemmas.Option.{slice_get_within, slice_get-map}
use Rattle.vx_ast.specs.declared.tree.Gives.{Gives}
use Rattle.vx_ast.specs.declared.tree.Gives.TheVariants.{Int as GivesInt, Nothing as GivesNothing}
use Rattle.vx_ast.specs.declared.tree.Item.{Item}
use Rattle.vx_ast.specs.declared.tree.Item.TheVariants.{Scalar as ClearScalar, ScalarWith, Array}
use Rattle.vx_ast.specs.declared.tree.First.{First}
use Rattle.vx_ast.specs.declared.tree.First.TheVariants.{Nothing as FirstNothing, Simple as FirstSimple, Items}
use Rattle.vx_ast.specs.declared.tree.Simple.{Simple}
use Rattle.vx_ast.specs.declared.tree.Statement.{Statement, Row_of-Statement, end_of-Statement, more_of-Statement}
use Rattle.vx_ast.specs.declared.tree.Statement.TheVariants.{Empty as AnEmpty, Block', Declaration, Simple as ASimple, Print as APrint, If', IfElse', While', DoWhile', For', Break as ABreak, Continue as AContinue, Return as AReturn, ReturnValue as AReturnValue}
use Rattle.vx_ast.specs.Tree.{Shape, One, Tree, Literal, Local, Global, Element, Unary, Binary, Both, Either, Choice, Apply, ReadInt, MoreInput, NoMore, Then, Hand, Place, InLocal, InGlobal, InElement, Action, Evaluate, Assign, Compound, Increase, Decrease, Code, Nothing, Seq, Empty, Block, Clear, Declare, ClearArray, Simply, Head, Print, If, IfElse, While, DoWhile, For, Break, Continue, Return, ReturnValue, Function, Program}
use Rattle.vx_ast.specs.View.{item_of, items_of, first_of, step_of, code_of, all_of, all_in}
use Rattle.vx_ast.specs.Accepted.{Scope, is_in, at_most, below, row_length, has_numbers, takes_of_row, same_takes, numbers_taken, arrays_taken, global_words, can_call, gives_int, is_scalar, is_array, names_array, suits, suits_place, suits_whole, suits_action, is_format, numbers_of, scope_after, suits_test, suits_code, scalars_of, arrays_of, are_all_from, in_force_at_start, suits_function}
use Rattle.vx_lower.specs.Seen.{Sees}
use Rattle.vx_ast.specs.declared.tree.Takes.{Takes}
use Rattle.vx_lower.specs.declared.seen.Seen.TheVariants.{GlobalArray, OwnArray}
use Rattle.vx_lower.specs.Lowered.{arrays_seen}
use Rattle.vx_lower.specs.Named.{Known, TakesArguments, IsThere, IsGlobal, IsOwn, IsNamed, PlaceNamed, ActionNamed, TestNamed, CodeNamed}
use Rattle.vx_lower.specs.FunctionShape.{known_of, FunctionNamed}
use Rattle.vx_lower.proofs.Base.{and_one, and_two}
use Rattle.vx_lower.proofs.Occurring.{all_occur}
use Rattle.vx_lower.proofs.Facts.{scalar_at}
use Rattle.vx_lower.proofs.Passing.{same_kinds, there_is, Sees_as, a_global, a_handed, an_own, length_seen, sees_as}

-- numbers below a bound

abbrev AllBelow : ℕ → List ℕ → Type 0
AllBelow most [] = Unit {0}
AllBelow most (x ∷ xs) = (x < most) × AllBelow most xs

either_of : (a b : Bool) → (a || b) ≡ true → (a ≡ true) ⊎ (b ≡ true)
either_of true b e = inl refl
either_of false b e = inr e

below_in : (most x : ℕ) (xs : List ℕ) → AllBelow most xs → is_in x xs ≡ true → x < most
below_in most x [] h e = absurd (cc)
below_in most x (y ∷ xs) h e = elim (either_of (nat_eq x y) (is_in x xs) e) [
  | inl a ↦ let s = eqb-true x y a in let b = h.0 in omega arith
  | inr b ↦ below_in most x xs h.1 b
]

below_front : (most : ℕ) (xs ys : List ℕ) → AllBelow most (xs ++ ys) → AllBelow most xs
below_front most [] ys h = tt
below_front most (x ∷ xs) ys h = (h.0, below_front most xs ys h.1)

below_behind : (most : ℕ) (xs ys : List ℕ) → AllBelow most (xs ++ ys) → AllBelow most ys
below_behind most [] ys h = h
below_behind most (x ∷ xs) ys h = below_behind most xs ys h.1

-- the same of what is said of each number
abbrev AllAre : (ℕ → Type 0) → List ℕ → Type 0
AllAre P [] = Unit {0}
AllAre P (x ∷ xs) = P x × AllAre P xs

are_in : (P : ℕ → Type 0) (x : ℕ) (xs : List ℕ) → AllAre P xs → is_in x xs ≡ true → P x
are_in P x [] h e = absurd (cc)
are_in P x (y ∷ xs) h e = elim (either_of (nat_eq x y) (is_in x xs) e) [
  | inl a ↦ subst P (sym (eqb-true x y a)) h.0
  | inr b ↦ are_in P x xs h.1 b
]

are_front : (P : ℕ → Type 0) (xs ys : List ℕ) → AllAre P (xs ++ ys) → AllAre P xs
are_front P [] ys h = tt
are_front P (x ∷ xs) ys h = (h.0, are_front P xs ys h.1)

are_behind : (P : ℕ → Type 0) (xs ys : List ℕ) → AllAre P (xs ++ ys) → AllAre P ys
are_behind P [] ys h = h
are_behind P (x ∷ xs) ys h = are_behind P xs ys h.1

-- the step of a `for` declares nothing

abbrev pub Stepped : Code → Type 0
Stepped Nothing = Unit {0}
Stepped (Seq a b) = Stepped a × Stepped b
Stepped Empty = Unit {0}
Stepped (Block a) = Stepped a
Stepped (Clear x) = Unit {0}
Stepped (Declare x e) = Unit {0}
Stepped (ClearArray a) = Unit {0}
Stepped (Simply a) = Unit {0}
Stepped (Head a) = Unit {0}
Stepped (Print format row) = Unit {0}
Stepped (If e a) = Stepped a
Stepped (IfElse e a b) = Stepped a × Stepped b
Stepped (While e a) = Stepped a
Stepped (DoWhile a e) = Stepped a
Stepped (For first test step a) = Stepped first × (scalars_of step ≡ []) × (arrays_of step ≡ []) × Stepped step × Stepped a
Stepped Break = Unit {0}
Stepped Continue = Unit {0}
Stepped Return = Unit {0}
Stepped (ReturnValue e) = Unit {0}

item_stepped : (i : Item) → Stepped (item_of i)
item_stepped (ClearScalar x) = tt
item_stepped (ScalarWith x e) = tt
item_stepped (Array a) = tt

items_stepped : (is : List Item) → Stepped (items_of is)
items_stepped [] = tt
items_stepped (i ∷ is) = (item_stepped i, items_stepped is)

first_stepped : (first : First) → Stepped (first_of first)
first_stepped FirstNothing = tt
first_stepped (FirstSimple a) = tt
first_stepped (Items is) = items_stepped is.items

step_stepped : (step : Option Simple) → (scalars_of (step_of step) ≡ []) × (arrays_of (step_of step) ≡ []) × Stepped (step_of step)
step_stepped None = (refl, refl, tt)
step_stepped (Some a) = (refl, refl, tt)

mutual
  stepped_of : (s : Statement) → Stepped (code_of s)
  stepped_of AnEmpty = tt
  stepped_of (Block' shape all) = stepped_all all
  stepped_of (Declaration is) = items_stepped is.items
  stepped_of (ASimple a) = tt
  stepped_of (APrint format row) = tt
  stepped_of (If' e p a) = stepped_of a
  stepped_of (IfElse' e p a q b) = (stepped_of a, stepped_of b)
  stepped_of (While' e p a) = stepped_of a
  stepped_of (DoWhile' p a e) = stepped_of a
  stepped_of (For' first test step p a) = let s = step_stepped step in (first_stepped first, s.0, s.1, s.2, stepped_of a)
  stepped_of ABreak = tt
  stepped_of AContinue = tt
  stepped_of AReturn = tt
  stepped_of (AReturnValue e) = tt

  stepped_all : {m : _} (all : Row_of-Statement m) → Stepped (all_of all)
  stepped_all end_of-Statement = tt
  stepped_all (more_of-Statement a rest) = (stepped_of a, stepped_all rest)

pub stepped_in : (ss : List Statement) → Stepped (all_in ss)
stepped_in [] = tt
stepped_in (s ∷ ss) = (stepped_of s, stepped_in ss)

-- what is in force is there
record InForce {words : Sees} (k : Known words) (sc : Scope) : Type 0 where
  scalars : AllBelow words.scalars sc.scalars
  arrays : AllAre (IsThere k) sc.arrays

-- and what is declared, which are arrays of the function's own
record Declares {words : Sees} (k : Known words) (s : Code) : Type 0 where
  scalars : AllBelow words.scalars (scalars_of s)
  arrays : AllAre (IsOwn k) (arrays_of s)

own_there : {words : Sees} (k : Known words) (a : ℕ) → IsOwn k a → IsThere k a
own_there {words} k a h = slice_get_within words.arrays a (OwnArray h.0) h.1

two_front : {words : Sees} (k : Known words) (s : Code) (xs ys us vs : List ℕ) → scalars_of s ≡ xs → arrays_of s ≡ us → AllBelow words.scalars (xs ++ ys) → AllAre (IsOwn k) (us ++ vs) → Declares k s
two_front {words} k s xs ys us vs e f h g = record { scalars = subst (AllBelow words.scalars) (sym e) (below_front words.scalars xs ys h); arrays = subst (AllAre (IsOwn k)) (sym f) (are_front (IsOwn k) us vs g) }

two_behind : {words : Sees} (k : Known words) (s : Code) (xs ys us vs : List ℕ) → scalars_of s ≡ ys → arrays_of s ≡ vs → AllBelow words.scalars (xs ++ ys) → AllAre (IsOwn k) (us ++ vs) → Declares k s
two_behind {words} k s xs ys us vs e f h g = record { scalars = subst (AllBelow words.scalars) (sym e) (below_behind words.scalars xs ys h); arrays = subst (AllAre (IsOwn k)) (sym f) (are_behind (IsOwn k) us vs g) }

front_of : {words : Sees} (k : Known words) (a b : Code) → AllBelow words.scalars (scalars_of a ++ scalars_of b) → AllAre (IsOwn k) (arrays_of a ++ arrays_of b) → Declares k a
front_of k a b h g = two_front k a (scalars_of a) (scalars_of b) (arrays_of a) (arrays_of b) refl refl h g

behind_of : {words : Sees} (k : Known words) (a b : Code) → AllBelow words.scalars (scalars_of a ++ scalars_of b) → AllAre (IsOwn k) (arrays_of a ++ arrays_of b) → Declares k b
behind_of k a b h g = two_behind k b (scalars_of a) (scalars_of b) (arrays_of a) (arrays_of b) refl refl h g

module _ (p : Program) {words : Sees} (k : Known words) (globals : (a : ℕ) → a < length p.globals → IsGlobal k a) (functions : k.parameters ≡ map (λ f. f.takes) p.functions) where
  global_there : (a : ℕ) → is_scalar (slice_get p.globals a) ≡ true → IsGlobal k a
  global_there a e = globals a (scalar_at p.globals a e).1

  array_named : (sc : Scope) (a : ℕ) → InForce k sc → names_array p sc a ≡ true → IsThere k a
  array_named sc a h e = one (nat_lt a (length p.globals)) refl
    where
      one : (t : Bool) → nat_lt a (length p.globals) ≡ t → IsThere k a
      one true q = let g = globals a (ltb-true a (length p.globals) q) in slice_get_within words.arrays a (GlobalArray g.0) g.1
      one false q = are_in (IsThere k) a sc.arrays h.arrays (subst (λ t. (if t then is_array (slice_get p.globals a) else is_in a sc.arrays) ≡ true) q e)

  called : (wanted : Gives → Bool) (takes : List Takes) (f : ℕ) → can_call wanted takes (slice_get p.functions f) ≡ true → TakesArguments k f takes
  called wanted takes f e = one (slice_get p.functions f) refl e
    where
      one : (o : Option Function) → slice_get p.functions f ≡ o → can_call wanted takes o ≡ true → TakesArguments k f takes
      one None q w = absurd (cc)
      one (Some x) q w =
          let m : takes ≡ x.takes = same_kinds takes x.takes (and_two (wanted x.gives) (same_takes takes x.takes) w) in
          ap (λ z. slice_get z f) functions ∙ slice_get-map (λ y. y.takes) p.functions f ∙ ap (option_map (λ y. y.takes)) q ∙ ap Some (sym m)

  tree_named : {shape : Shape} (sc : Scope) (t : Tree shape) → InForce k sc → suits p sc t ≡ true → IsNamed k t
  tree_named sc (Literal z) h e = tt
  tree_named sc (Local x) h e = below_in words.scalars x sc.scalars h.scalars e
  tree_named sc (Global a) h e = global_there a e
  tree_named sc (Element a i) h e = (array_named sc a h (and_one (names_array p sc a) (suits p sc i) e), tree_named sc i h (and_two (names_array p sc a) (suits p sc i) e))
  tree_named sc (Unary operator a) h e = tree_named sc a h e
  tree_named sc (Binary operator a b) h e = (tree_named sc a h (and_one (suits p sc a) (suits p sc b) e), tree_named sc b h (and_two (suits p sc a) (suits p sc b) e))
  tree_named sc (Both a b) h e = (tree_named sc a h (and_one (suits p sc a) (suits p sc b) e), tree_named sc b h (and_two (suits p sc a) (suits p sc b) e))
  tree_named sc (Either a b) h e = (tree_named sc a h (and_one (suits p sc a) (suits p sc b) e), tree_named sc b h (and_two (suits p sc a) (suits p sc b) e))
  tree_named sc (Choice c a b) h e =
      let d = and_two (suits p sc c) (suits p sc a && suits p sc b) e in
      (tree_named sc c h (and_one (suits p sc c) (suits p sc a && suits p sc b) e), tree_named sc a h (and_one (suits p sc a) (suits p sc b) d), tree_named sc b h (and_two (suits p sc a) (suits p sc b) d))
  tree_named sc (Apply f row) h e = (called gives_int (takes_of_row row) f (and_one (can_call gives_int (takes_of_row row) (slice_get p.functions f)) (suits p sc row) e), tree_named sc row h (and_two (can_call gives_int (takes_of_row row) (slice_get p.functions f)) (suits p sc row) e))
  tree_named sc ReadInt h e = tt
  tree_named sc MoreInput h e = tt
  tree_named sc NoMore h e = tt
  tree_named sc (Hand a rest) h e = (array_named sc a h (and_one (names_array p sc a) (suits p sc rest) e), tree_named sc rest h (and_two (names_array p sc a) (suits p sc rest) e))
  tree_named sc (Then a rest) h e = (tree_named sc a h (and_one (suits p sc a) (suits p sc rest) e), tree_named sc rest h (and_two (suits p sc a) (suits p sc rest) e))

  place_named : (sc : Scope) (t : Place) → InForce k sc → suits_place p sc t ≡ true → PlaceNamed k t
  place_named sc (InLocal x) h e = below_in words.scalars x sc.scalars h.scalars e
  place_named sc (InGlobal a) h e = global_there a e
  place_named sc (InElement a i) h e = (array_named sc a h (and_one (names_array p sc a) (suits p sc i) e), tree_named sc i h (and_two (names_array p sc a) (suits p sc i) e))

  whole_named : (sc : Scope) (t : Tree One) → InForce k sc → suits_whole p sc t ≡ true → IsNamed k t
  whole_named sc (Literal z) h e = tt
  whole_named sc (Local x) h e = tree_named sc (Local x) h e
  whole_named sc (Global a) h e = tree_named sc (Global a) h e
  whole_named sc (Element a i) h e = tree_named sc (Element a i) h e
  whole_named sc (Unary operator a) h e = tree_named sc a h e
  whole_named sc (Binary operator a b) h e = tree_named sc (Binary operator a b) h e
  whole_named sc (Both a b) h e = tree_named sc (Both a b) h e
  whole_named sc (Either a b) h e = tree_named sc (Either a b) h e
  whole_named sc (Choice c a b) h e = tree_named sc (Choice c a b) h e
  whole_named sc (Apply f row) h e = (called (λ gives. true) (takes_of_row row) f (and_one (can_call (λ gives. true) (takes_of_row row) (slice_get p.functions f)) (suits p sc row) e), tree_named sc row h (and_two (can_call (λ gives. true) (takes_of_row row) (slice_get p.functions f)) (suits p sc row) e))
  whole_named sc ReadInt h e = tt
  whole_named sc MoreInput h e = tt

  action_named : (sc : Scope) (a : Action) → InForce k sc → suits_action p sc a ≡ true → ActionNamed k a
  action_named sc (Evaluate x) h e = whole_named sc x h e
  action_named sc (Assign t x) h e = (place_named sc t h (and_one (suits_place p sc t) (suits p sc x) e), tree_named sc x h (and_two (suits_place p sc t) (suits p sc x) e))
  action_named sc (Compound t operator x) h e = (place_named sc t h (and_one (suits_place p sc t) (suits p sc x) e), tree_named sc x h (and_two (suits_place p sc t) (suits p sc x) e))
  action_named sc (Increase t) h e = place_named sc t h e
  action_named sc (Decrease t) h e = place_named sc t h e

  test_named : (sc : Scope) (t : Option (Tree One)) → InForce k sc → suits_test p sc t ≡ true → TestNamed k t
  test_named sc None h e = tt
  test_named sc (Some x) h e = tree_named sc x h e

  -- what is in force behind a statement is there too
  scope_there : (s : Code) (sc : Scope) → InForce k sc → Declares k s → InForce k (scope_after s sc)
  scope_there Nothing sc h d = h
  scope_there (Seq a b) sc h d = scope_there b (scope_after a sc) (scope_there a sc h (front_of k a b d.scalars d.arrays)) (behind_of k a b d.scalars d.arrays)
  scope_there Empty sc h d = h
  scope_there (Block a) sc h d = h
  scope_there (Clear x) sc h d = record { scalars = (d.scalars.0, h.scalars); arrays = h.arrays }
  scope_there (Declare x e) sc h d = record { scalars = (d.scalars.0, h.scalars); arrays = h.arrays }
  scope_there (ClearArray a) sc h d = record { scalars = h.scalars; arrays = (own_there k a d.arrays.0, h.arrays) }
  scope_there (Simply a) sc h d = h
  scope_there (Head a) sc h d = h
  scope_there (Print format row) sc h d = h
  scope_there (If e a) sc h d = h
  scope_there (IfElse e a b) sc h d = h
  scope_there (While e a) sc h d = h
  scope_there (DoWhile a e) sc h d = h
  scope_there (For first test step a) sc h d = h
  scope_there Break sc h d = h
  scope_there Continue sc h d = h
  scope_there Return sc h d = h
  scope_there (ReturnValue e) sc h d = h

  gives_named : (gives : Gives) (loops : Bool) (sc : Scope) (x : Tree One) → InForce k sc → suits_code p gives loops sc (ReturnValue x) ≡ true → IsNamed k x
  gives_named GivesInt loops sc x h e = tree_named sc x h e
  gives_named GivesNothing loops sc x h e = absurd (cc)

  code_named : (gives : Gives) (loops : Bool) (sc : Scope) (s : Code) → Stepped s → InForce k sc → Declares k s → suits_code p gives loops sc s ≡ true → CodeNamed k s
  code_named gives loops sc Nothing w h d e = tt
  code_named gives loops sc (Seq a b) w h d e =
      let da = front_of k a b d.scalars d.arrays in
      let db = behind_of k a b d.scalars d.arrays in (
        code_named gives loops sc a w.0 h da (and_one (suits_code p gives loops sc a) (suits_code p gives loops (scope_after a sc) b) e),
        code_named gives loops (scope_after a sc) b w.1 (scope_there a sc h da) db (and_two (suits_code p gives loops sc a) (suits_code p gives loops (scope_after a sc) b) e),
      )
  code_named gives loops sc Empty w h d e = tt
  code_named gives loops sc (Block a) w h d e = code_named gives loops sc a w h (record { scalars = d.scalars; arrays = d.arrays }) e
  code_named gives loops sc (Clear x) w h d e = d.scalars.0
  code_named gives loops sc (Declare x t) w h d e = (d.scalars.0, tree_named sc t h e)
  code_named gives loops sc (ClearArray a) w h d e = d.arrays.0
  code_named gives loops sc (Simply a) w h d e = action_named sc a h e
  code_named gives loops sc (Head a) w h d e = action_named sc a h e
  code_named gives loops sc (Print format row) w h d e =
      let counts = nat_eq (numbers_of format) (row_length row) in
      let first = and_one (is_format format && (counts && has_numbers row)) (suits p sc row) e in
      (and_two counts (has_numbers row) (and_two (is_format format) (counts && has_numbers row) first), tree_named sc row h (and_two (is_format format && (counts && has_numbers row)) (suits p sc row) e))
  code_named gives loops sc (If t a) w h d e = (tree_named sc t h (and_one (suits p sc t) (suits_code p gives loops sc a) e), code_named gives loops sc a w h (record { scalars = d.scalars; arrays = d.arrays }) (and_two (suits p sc t) (suits_code p gives loops sc a) e))
  code_named gives loops sc (IfElse t a b) w h d e =
      let r = and_two (suits p sc t) (suits_code p gives loops sc a && suits_code p gives loops sc b) e in (
        tree_named sc t h (and_one (suits p sc t) (suits_code p gives loops sc a && suits_code p gives loops sc b) e),
        code_named gives loops sc a w.0 h (front_of k a b d.scalars d.arrays) (and_one (suits_code p gives loops sc a) (suits_code p gives loops sc b) r),
        code_named gives loops sc b w.1 h (behind_of k a b d.scalars d.arrays) (and_two (suits_code p gives loops sc a) (suits_code p gives loops sc b) r),
      )
  code_named gives loops sc (While t a) w h d e = (tree_named sc t h (and_one (suits p sc t) (suits_code p gives true sc a) e), code_named gives true sc a w h (record { scalars = d.scalars; arrays = d.arrays }) (and_two (suits p sc t) (suits_code p gives true sc a) e))
  code_named gives loops sc (DoWhile a t) w h d e = (code_named gives true sc a w h (record { scalars = d.scalars; arrays = d.arrays }) (and_one (suits_code p gives true sc a) (suits p sc t) e), tree_named sc t h (and_two (suits_code p gives true sc a) (suits p sc t) e))
  code_named gives loops sc (For first test step a) w h d e =
      let inner = scope_after first sc in
      let df = front_of k first a d.scalars d.arrays in
      let da = behind_of k first a d.scalars d.arrays in
      let hi = scope_there first sc h df in
      let e2 = and_two (suits_code p gives loops sc first) (suits_test p inner test && (suits_code p gives loops inner step && suits_code p gives true inner a)) e in
      let e3 = and_two (suits_test p inner test) (suits_code p gives loops inner step && suits_code p gives true inner a) e2 in
      let ds : Declares k step = record { scalars = subst (AllBelow words.scalars) (sym w.1) tt; arrays = subst (AllAre (IsOwn k)) (sym w.2) tt } in (
        code_named gives loops sc first w.0 h df (and_one (suits_code p gives loops sc first) (suits_test p inner test && (suits_code p gives loops inner step && suits_code p gives true inner a)) e),
        test_named inner test hi (and_one (suits_test p inner test) (suits_code p gives loops inner step && suits_code p gives true inner a) e2),
        code_named gives loops inner step w.3 hi ds (and_one (suits_code p gives loops inner step) (suits_code p gives true inner a) e3),
        code_named gives true inner a w.4 hi da (and_two (suits_code p gives loops inner step) (suits_code p gives true inner a) e3),
      )
  code_named gives loops sc Break w h d e = tt
  code_named gives loops sc Continue w h d e = tt
  code_named gives loops sc Return w h d e = tt
  code_named gives loops sc (ReturnValue t) w h d e = gives_named gives loops sc t h e

-- functions

below_below : (n most : ℕ) → n ≤ most → AllBelow most (below n)
below_below zero most h = tt
below_below (suc n) most h = (omega arith, below_below n most (omega arith))

all_from_below : (first count most : ℕ) (xs : List ℕ) → first + count ≤ most → list_all (λ x. at_most first x && nat_lt x (first + count)) xs ≡ true → AllBelow most xs
all_from_below first count most [] h e = tt
all_from_below first count most (x ∷ xs) h e =
    let a = and_one (at_most first x && nat_lt x (first + count)) (list_all (λ x. at_most first x && nat_lt x (first + count)) xs) e in
    let b : x < first + count = ltb-true x (first + count) (and_two (at_most first x) (nat_lt x (first + count)) a) in
    (omega arith, all_from_below first count most xs h (and_two (at_most first x && nat_lt x (first + count)) (list_all (λ x. at_most first x && nat_lt x (first + count)) xs) e))

-- at least so many items, each below their end
pub record FromTo (first count : ℕ) (xs : List ℕ) : Type 0 where
  pub size : count ≤ length xs
  pub below : AllBelow (first + count) xs

from_to : (first count : ℕ) (xs : List ℕ) → are_all_from first count xs ≡ true → FromTo first count xs
from_to first count xs e =
    let each = list_all (λ k. is_in (first + k) xs) (below count) in
    let whole = list_all (λ x. at_most first x && nat_lt x (first + count)) xs in
    record { size = all_occur first count xs (and_one each whole e); below = all_from_below first count (first + count) xs (omega arith) (and_two each whole e) }

-- the arrays of a function of the program

pub is_global_there : (p : Program) (f : Function) (a : ℕ) → a < length p.globals → IsGlobal (known_of p f) a
is_global_there p f a l = by (sees_as p f a)
  where
    many : a < length (arrays_seen p f)
    many = let m = length_seen p f in omega arith

    by : Sees_as p f a → IsGlobal (known_of p f) a
    by (a_global h q) = (slice_index_or (map global_words p.globals) a 0, there_is (arrays_seen p f) a (OwnArray 0) many ∙ ap Some q)
    by (a_handed j h e q) = absurd (omega arith)
    by (an_own j e q) = absurd (omega arith)

is_own_there : (p : Program) (f : Function) (a : ℕ) → length p.globals + arrays_taken f ≤ a → a < length p.globals + arrays_taken f + length f.arrays → IsOwn (known_of p f) a
is_own_there p f a l u = by (sees_as p f a)
  where
    many : a < length (arrays_seen p f)
    many = let m = length_seen p f in omega arith

    by : Sees_as p f a → IsOwn (known_of p f) a
    by (a_global h q) = absurd (omega arith)
    by (a_handed j h e q) = absurd (omega arith)
    by (an_own j e q) = (slice_index_or f.arrays j 0, there_is (arrays_seen p f) a (OwnArray 0) many ∙ ap Some q)

all_own : (p : Program) (f : Function) (xs : List ℕ) → list_all (λ x. at_most (length p.globals + arrays_taken f) x && nat_lt x (length p.globals + arrays_taken f + length f.arrays)) xs ≡ true → AllAre (IsOwn (known_of p f)) xs
all_own p f [] e = tt
all_own p f (x ∷ xs) e =
    let first = length p.globals + arrays_taken f in
    let a = and_one (at_most first x && nat_lt x (first + length f.arrays)) (list_all (λ x. at_most first x && nat_lt x (first + length f.arrays)) xs) e in
    let b : x < first + length f.arrays = ltb-true x (first + length f.arrays) (and_two (at_most first x) (nat_lt x (first + length f.arrays)) a) in
    let c : first < suc x = ltb-true first (suc x) (and_one (at_most first x) (nat_lt x (first + length f.arrays)) a) in
    (is_own_there p f x (omega arith) b, all_own p f xs (and_two (at_most first x && nat_lt x (first + length f.arrays)) (list_all (λ x. at_most first x && nat_lt x (first + length f.arrays)) xs) e))

all_handed : (p : Program) (f : Function) (n : ℕ) → n ≤ arrays_taken f → AllAre (IsThere (known_of p f)) (map (λ k. length p.globals + k) (below n))
all_handed p f zero le = tt
all_handed p f (suc n) le = (let m = length_seen p f in omega arith, all_handed p f n (omega arith))

pub function_named : (p : Program) (f : Function) → Stepped f.body → suits_function p f ≡ true → FunctionNamed p f
function_named p f w e =
    let whole = suits_code p f.gives false (in_force_at_start p f) f.body in
    let fits = at_most f.parameters f.scalars && nat_eq f.parameters (numbers_taken f) in
    let scalars = are_all_from f.parameters (f.scalars - f.parameters) (scalars_of f.body) in
    let first = length p.globals + arrays_taken f in
    let own = are_all_from first (length f.arrays) (arrays_of f.body) in
    let sizes = list_all (nat_lt 0) f.arrays in
    let x0 = and_one (whole && fits) (scalars && (own && sizes)) e in
    let x1 = and_two (whole && fits) (scalars && (own && sizes)) e in
    let le : f.parameters < suc f.scalars = ltb-true f.parameters (suc f.scalars) (and_one (at_most f.parameters f.scalars) (nat_eq f.parameters (numbers_taken f)) (and_two whole fits x0)) in
    let s = from_to f.parameters (f.scalars - f.parameters) (scalars_of f.body) (and_one scalars (own && sizes) x1) in
    let a = and_two (list_all (λ k. is_in (first + k) (arrays_of f.body)) (below (length f.arrays))) (list_all (λ x. at_most first x && nat_lt x (first + length f.arrays)) (arrays_of f.body)) (and_one own sizes (and_two scalars (own && sizes) x1)) in
    let k = known_of p f in
    let same : f.parameters + (f.scalars - f.parameters) ≡ f.scalars = omega arith in
    let size = s.size in
    let d : Declares k f.body = record { scalars = subst (λ n. AllBelow n (scalars_of f.body)) same s.below; arrays = all_own p f (arrays_of f.body) a } in
    let h : InForce k (in_force_at_start p f) = record { scalars = below_below f.parameters f.scalars (omega arith); arrays = all_handed p f (arrays_taken f) (omega arith) } in
    record { named = code_named p k (is_global_there p f) refl f.gives false (in_force_at_start p f) f.body w h d (and_one whole fits x0); parameters = omega arith; counts = eqb-true f.parameters (numbers_taken f) (and_two (at_most f.parameters f.scalars) (nat_eq f.parameters (numbers_taken f)) (and_two whole fits x0)); scalars = omega arith }
