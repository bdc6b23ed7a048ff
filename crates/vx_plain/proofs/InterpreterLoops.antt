-- Steps of the interpreter's loops: rows of numbers and of arguments, statements one after the other, the turns of each kind of loop.
use Rattle.std.proofs.Common.{◌≡◌, ◌<◌, ◌+◌, ◌-◌, ℕ, suc, ℤ, List, [], ◌∷◌, ◌++◌, length, drop, get_or, Some, None, Result, Ok, Err, refl, sym, ◌∙◌, ap, subst, arith, append-nil, w32, of_z}
use Rattle.std.specs.Prelude.{IsErrAnd}
use Rattle.std.proofs.Math.Seq.{drop-cons}
use Rattle.vx_ast.specs.Meaning.{Store, Part, With, Trapped, Going, Leaves, Falls, Calls, Argument, NumberArgument, ArrayArgument, numbers_given, arrays_given, and_then, value, go_on, after_body, after_turn, tests, turns, turns_first}
use Rattle.vx_plain.specs.Kept.{Kept, store_of}
use Rattle.vx_plain.specs.Interpreting.{IsAnswered, Comes, AreGiven, Passes, itself, leaves_of, IsAfterTurn, IsAfterBody}
use Rattle.vx_ast.specs.View.{tree_of, arguments_in, row_in}
use Rattle.vx_ast.specs.declared.tree.Expression.{Expression}
use Rattle.vx_ast.specs.declared.tree.Argument.{Argument as TreeArgument}
use Rattle.vx_ast.specs.declared.tree.Argument.TheVariants.{Number as ANumber, Array as AnArray}
use Rattle.vx_plain.specs.declared.interpreter.Arguments.{Arguments}
use Rattle.vx_plain.specs.declared.interpreter.Stop.{Stop}
use Rattle.vx_plain.specs.declared.interpreter.Stop.TheVariants.{Trap as StopTrap, Bound as StopBound, Memory as StopMemory}
use Rattle.vx_plain.specs.declared.interpreter.Leave.{Leave}
use Rattle.vx_plain.proofs.InterpreterSteps.{stop_then, through, passes_stop, numbers_more, numbers_same, arrays_more, arrays_same, more_values}

-- rows of numbers

module _ (spot : ℕ → ℕ) (calls : Calls) (row : List Expression) (i : ℕ) (numbers : List Argument) (start s : Store) (x : Expression)
    (so_far : value spot calls (row_in row) start ≡ and_then (value spot calls (row_in (drop i row)) s) (λ xs t. With (numbers ++ xs) t)) (more : i < length row) (item : x ≡ get_or row i x) where
  cut : drop i row ≡ x ∷ drop (i + 1) row
  cut = let q : i + 1 ≡ suc i = omega arith in rw q (drop-cons row i x more ∙ ap (λ y. y ∷ drop (suc i) row) (sym item))

  pub row_stop : {D : Type 0} (g : D → List Argument) (r : Result D Stop) (e : Stop) (k : Kept) → IsErrAnd r (λ y. y ≡ e) → Comes itself (Err e) k (value spot calls (tree_of x) s) → Comes g r k (value spot calls (row_in row) start)
  row_stop g r e k h c =
      let rest : ℤ → Store → Part (List Argument) = λ y t. and_then (value spot calls (row_in (drop (i + 1) row)) t) (λ xs u. With (NumberArgument y ∷ xs) u) in
      let inner : Comes {A = List Argument} {B = ℤ} (λ z. []) (Err e) k (and_then (value spot calls (tree_of x) s) rest) = stop_then itself (λ z. []) (Err e) e k (value spot calls (tree_of x) s) rest refl c in
      subst (Comes g r k) (sym (so_far ∙ ap (λ l. and_then (value spot calls (row_in l) s) (λ xs t. With (numbers ++ xs) t)) cut))
      (stop_then (λ z. []) g r e k (and_then (value spot calls (tree_of x) s) rest) (λ xs t. With (numbers ++ xs) t) h inner)

  pub row_more : (v : ℤ) (t : Store) → value spot calls (tree_of x) s ≡ With v t → value spot calls (row_in row) start ≡ and_then (value spot calls (row_in (drop (i + 1) row)) t) (λ xs u. With ((numbers ++ NumberArgument v ∷ []) ++ xs) u)
  row_more v t e =
      so_far ∙ ap (λ l. and_then (value spot calls (row_in l) s) (λ xs t. With (numbers ++ xs) t)) cut
      ∙ ap (λ p. and_then (and_then p (λ y t. and_then (value spot calls (row_in (drop (i + 1) row)) t) (λ xs u. With (NumberArgument y ∷ xs) u))) (λ xs t. With (numbers ++ xs) t)) e
      ∙ more_values (value spot calls (row_in (drop (i + 1) row)) t) numbers (NumberArgument v)

-- rows of arguments that are numbers and arrays

-- what the arguments so far give, and then those of the rest, is what the row gives
pub record SoFar (spot : ℕ → ℕ) (calls : Calls) (row : List TreeArgument) (i : ℕ) (zs : List ℤ) (ks : List ℕ) (start s : Store) : Type 0 where
  pub done : List Argument
  pub is : value spot calls (arguments_in row) start ≡ and_then (value spot calls (arguments_in (drop i row)) s) (λ xs t. With (done ++ xs) t)
  pub numbers : numbers_given done ≡ zs
  pub arrays : arrays_given done ≡ ks

then_none : (p : Part (List Argument)) → p ≡ and_then p (λ xs t. With ([] ++ xs) t)
then_none (With xs s) = refl
then_none (Trapped k out) = refl
then_none (Going out) = refl

pub so_far_begin : (spot : ℕ → ℕ) (calls : Calls) (row : List TreeArgument) (zs : List ℤ) (ks : List ℕ) (s : Store) → zs ≡ [] → ks ≡ [] → SoFar spot calls row 0 zs ks s s
so_far_begin spot calls row zs ks s e f = record { done = []; is = then_none (value spot calls (arguments_in row) s); numbers = sym e; arrays = sym f }

pub so_far_end : (spot : ℕ → ℕ) (calls : Calls) (row : List TreeArgument) (i : ℕ) (a : Arguments) (start : Store) (k : Kept) → SoFar spot calls row i a.numbers.items a.arrays.items start (store_of k) → drop i row ≡ []
    → AreGiven a k (value spot calls (arguments_in row) start)
so_far_end spot calls row i a start k f e = record {
  all = f.done;
  is = f.is ∙ ap (λ l. and_then (value spot calls (arguments_in l) (store_of k)) (λ xs t. With (f.done ++ xs) t)) e ∙ ap (λ l. With l (store_of k)) (append-nil f.done);
  numbers = f.numbers;
  arrays = f.arrays;
}

module _ (spot : ℕ → ℕ) (calls : Calls) (row : List TreeArgument) (i : ℕ) (zs : List ℤ) (ks : List ℕ) (start s : Store) (x : TreeArgument) (f : SoFar spot calls row i zs ks start s) (more : i < length row) (item : x ≡ get_or row i x) where
  cut_at : (y : TreeArgument) → x ≡ y → drop i row ≡ y ∷ drop (i + 1) row
  cut_at y e = let q : i + 1 ≡ suc i = omega arith in rw q (drop-cons row i x more ∙ ap (λ z. z ∷ drop (suc i) row) (sym item ∙ e))

  abbrev left : Store → Part (List Argument)
  left t = value spot calls (arguments_in (drop (i + 1) row)) t

  is_number : (e : Expression) → x ≡ ANumber e → value spot calls (arguments_in row) start ≡ and_then (and_then (value spot calls (tree_of e) s) (λ y t. and_then (left t) (λ xs u. With (NumberArgument y ∷ xs) u))) (λ xs t. With (f.done ++ xs) t)
  is_number e q = f.is ∙ ap (λ l. and_then (value spot calls (arguments_in l) s) (λ xs t. With (f.done ++ xs) t)) (cut_at (ANumber e) q)

  pub number_stop : (e : Expression) → x ≡ ANumber e → (r : Result Arguments Stop) (err : Stop) (k : Kept) → IsErrAnd r (λ y. y ≡ err) → Comes itself (Err err) k (value spot calls (tree_of e) s) → Passes r k (value spot calls (arguments_in row) start)
  number_stop e q r err k h c =
      let inside : ℤ → Store → Part (List Argument) = λ y t. and_then (left t) (λ xs u. With (NumberArgument y ∷ xs) u) in
      let inner : Comes {A = List Argument} {B = ℤ} (λ z. []) (Err err) k (and_then (value spot calls (tree_of e) s) inside) = stop_then itself (λ z. []) (Err err) err k (value spot calls (tree_of e) s) inside refl c in
      let outer : Comes {A = List Argument} {B = ℤ} (λ z. []) (Err err) k (and_then (and_then (value spot calls (tree_of e) s) inside) (λ xs t. With (f.done ++ xs) t)) =
      stop_then (λ z. []) (λ z. []) (Err err) err k (and_then (value spot calls (tree_of e) s) inside) (λ xs t. With (f.done ++ xs) t) refl inner
      in
      subst (Passes r k) (sym (is_number e q)) (passes_stop {C = ℤ} (λ z. []) r err k (and_then (and_then (value spot calls (tree_of e) s) inside) (λ xs t. With (f.done ++ xs) t)) h outer)

  pub number_more : (e : Expression) → x ≡ ANumber e → (v : ℤ) (t : Store) (all : List ℤ) → value spot calls (tree_of e) s ≡ With v t → all ≡ zs ++ v ∷ [] → SoFar spot calls row (i + 1) all ks start t
  number_more e q v t all g m = record {
    done = f.done ++ NumberArgument v ∷ [];
    is = is_number e q ∙ ap (λ p. and_then (and_then p (λ y t. and_then (left t) (λ xs u. With (NumberArgument y ∷ xs) u))) (λ xs t. With (f.done ++ xs) t)) g ∙ more_values (left t) f.done (NumberArgument v);
    numbers = numbers_more f.done v ∙ ap (λ l. l ++ v ∷ []) f.numbers ∙ sym m;
    arrays = arrays_same f.done v ∙ f.arrays;
  }

  pub array_more : (a spot_of_a : ℕ) → x ≡ AnArray a → spot_of_a ≡ spot a → (all : List ℕ) → all ≡ ks ++ spot_of_a ∷ [] → SoFar spot calls row (i + 1) zs all start s
  array_more a b q e all m = record {
    done = f.done ++ ArrayArgument (spot a) ∷ [];
    is = f.is ∙ ap (λ l. and_then (value spot calls (arguments_in l) s) (λ xs t. With (f.done ++ xs) t)) (cut_at (AnArray a) q) ∙ more_values (left s) f.done (ArrayArgument (spot a));
    numbers = numbers_same f.done (spot a) ∙ f.numbers;
    arrays = arrays_more f.done (spot a) ∙ ap (λ l. l ++ spot a ∷ []) f.arrays ∙ ap (λ z. ks ++ z ∷ []) (sym e) ∙ sym m;
  }

-- a statement that falls

pub fall_on : {D : Type 0} (g : D → Leaves) (r : Result D Stop) (k : Kept) (x : Part Leaves) (s : Store) (f : Store → Part Leaves) → x ≡ With Falls s → Comes g r k (f s) → Comes g r k (go_on x f)
fall_on g r k x s f e c = subst (λ q. Comes g r k (go_on q f)) (sym e) c

-- a turn that stops

turn_stop : {C D : Type 0} (h : C → Leaves) (g : D → Leaves) (e : Stop) (k : Kept) (x : Part Leaves) (f : Store → Part Leaves) → IsAnswered h (Err e) k x → IsAnswered g (Err e) k (after_turn x f)
turn_stop h g (StopTrap t) k x f c = ap (λ q. after_turn q f) c
turn_stop h g StopBound k x f c = ap (λ q. after_turn q f) c
turn_stop h g StopMemory k x f c = tt

pub stop_turn : {C D : Type 0} (h : C → Leaves) (g : D → Leaves) (r : Result D Stop) (e : Stop) (k : Kept) (x : Part Leaves) (f : Store → Part Leaves) → IsErrAnd r (λ y. y ≡ e) → Comes h (Err e) k x → Comes g r k (after_turn x f)
stop_turn h g (Ok d) e k x f i c = absurd i
stop_turn h g (Err y) e k x f i c = subst (λ z. Comes g (Err z) k (after_turn x f)) (sym i) (record { is = turn_stop h g e k x f c.is })

body_stop : {C D : Type 0} (h : C → Leaves) (g : D → Leaves) (e : Stop) (k : Kept) (x : Part Leaves) (f : Store → Part Leaves) → IsAnswered h (Err e) k x → IsAnswered g (Err e) k (after_body x f)
body_stop h g (StopTrap t) k x f c = ap (λ q. after_body q f) c
body_stop h g StopBound k x f c = ap (λ q. after_body q f) c
body_stop h g StopMemory k x f c = tt

-- the turns of a while

positive : (left : ℕ) → 0 < left → left ≡ suc (left - 1)
positive left h = omega arith

module _ (test : Store → Part ℤ) (turn : Store → Part Leaves) (n left : ℕ) (start s : Store) (more : 0 < left) where
  module _ (so_far : turns n test turn start ≡ turns left test turn s) (v : ℤ) (t : Store) (tested : test s ≡ With v t) (holds : of_z w32 v ≡ 0 → ⊥) where
    pub while_on : turns n test turn start ≡ after_turn (turn t) (turns (left - 1) test turn)
    while_on =
        so_far ∙ ap (λ m. turns m test turn s) (positive left more)
        ∙ ap (λ p. tests p (λ t. after_turn (turn t) (turns (left - 1) test turn)) (λ t. With Falls t)) tested
        ∙ through v (after_turn (turn t) (turns (left - 1) test turn)) (With Falls t) holds

    pub while_more : (how : Leave) (u : Store) → turn t ≡ With (leaves_of how) u → IsAfterTurn how None → turns n test turn start ≡ turns (left - 1) test turn u
    while_more how u turned after = while_on ∙ ap (λ p. after_turn p (turns (left - 1) test turn)) turned ∙ after u (turns (left - 1) test turn)

  -- the turns of a do
  module _ (so_far : turns_first n test turn start ≡ turns_first left test turn s) (how : Leave) (t : Store) (turned : turn s ≡ With (leaves_of how) t) where
    do_step : turns_first n test turn start ≡ after_turn (With (leaves_of how) t) (λ u. tests (test u) (turns_first (left - 1) test turn) (λ w. With Falls w))
    do_step = so_far ∙ ap (λ m. turns_first m test turn s) (positive left more) ∙ ap (λ p. after_turn p (λ u. tests (test u) (turns_first (left - 1) test turn) (λ w. With Falls w))) turned

    pub do_out : (out : Leave) (k : Kept) → t ≡ store_of k → IsAfterTurn how (Some out) → Comes leaves_of (Ok out) k (turns_first n test turn start)
    do_out out k e after = record { is = do_step ∙ after t (λ u. tests (test u) (turns_first (left - 1) test turn) (λ w. With Falls w)) ∙ ap (With (leaves_of out)) e }

    pub do_on : IsAfterTurn how None → turns_first n test turn start ≡ tests (test t) (turns_first (left - 1) test turn) (λ w. With Falls w)
    do_on after = do_step ∙ after t (λ u. tests (test u) (turns_first (left - 1) test turn) (λ w. With Falls w))

    pub do_more : IsAfterTurn how None → (v : ℤ) (u : Store) → test t ≡ With v u → (of_z w32 v ≡ 0 → ⊥) → turns_first n test turn start ≡ turns_first (left - 1) test turn u
    do_more after v u tested holds =
        do_on after ∙ ap (λ p. tests p (turns_first (left - 1) test turn) (λ w. With Falls w)) tested ∙ through v (turns_first (left - 1) test turn u) (With Falls u) holds

-- the turns of a for

module _ (test : Store → Part ℤ) (body step : Store → Part Leaves) (n left : ℕ) (start s : Store) (more : 0 < left)
    (so_far : turns n test (λ t. after_body (body t) step) start ≡ turns left test (λ t. after_body (body t) step) s) (v : ℤ) (t : Store) (tested : test s ≡ With v t) (holds : of_z w32 v ≡ 0 → ⊥) where
  abbrev rest : Store → Part Leaves
  rest = turns (left - 1) test (λ t. after_body (body t) step)

  for_on : turns n test (λ t. after_body (body t) step) start ≡ after_turn (after_body (body t) step) rest
  for_on = while_on test (λ t. after_body (body t) step) n left start s more so_far v t tested holds

  pub for_stop : {C D : Type 0} (h : C → Leaves) (g : D → Leaves) (r : Result D Stop) (e : Stop) (k : Kept) → IsErrAnd r (λ y. y ≡ e) → Comes h (Err e) k (body t) → Comes g r k (turns n test (λ t. after_body (body t) step) start)
  for_stop h g r e k i c =
      let inner : Comes h (Err e) k (after_body (body t) step) = record { is = body_stop h h e k (body t) step c.is } in
      subst (Comes g r k) (sym for_on) (stop_turn h g r e k (after_body (body t) step) rest i inner)

  module _ (how : Leave) (u : Store) (turned : body t ≡ With (leaves_of how) u) where
    pub for_out : (out : Leave) (k : Kept) → u ≡ store_of k → IsAfterBody how (Some out) → Comes leaves_of (Ok out) k (turns n test (λ t. after_body (body t) step) start)
    for_out out k e after = record { is = for_on ∙ ap (λ p. after_turn (after_body p step) rest) turned ∙ after u step rest ∙ ap (With (leaves_of out)) e }

    for_step : IsAfterBody how None → turns n test (λ t. after_body (body t) step) start ≡ after_turn (step u) rest
    for_step after = for_on ∙ ap (λ p. after_turn (after_body p step) rest) turned ∙ ap (λ p. after_turn p rest) (after u step)

    pub for_step_stop : {C D : Type 0} (h : C → Leaves) (g : D → Leaves) (r : Result D Stop) (e : Stop) (k : Kept) → IsAfterBody how None → IsErrAnd r (λ y. y ≡ e) → Comes h (Err e) k (step u) → Comes g r k (turns n test (λ t. after_body (body t) step) start)
    for_step_stop h g r e k after i c = subst (Comes g r k) (sym (for_step after)) (stop_turn h g r e k (step u) rest i c)

    pub for_more : IsAfterBody how None → (w : Store) → step u ≡ With Falls w → turns n test (λ t. after_body (body t) step) start ≡ turns (left - 1) test (λ t. after_body (body t) step) w
    for_more after w e = for_step after ∙ ap (λ p. after_turn p rest) e
