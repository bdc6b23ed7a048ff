-- What the body of several turns does.
use Rattle.std.proofs.Common.{◌≡◌, ℕ, zero, suc, ℤ, pos, negsuc, Bool, false, Option, Some, None, refl, sym, ap, ◌∙◌, length, arith}
use Rattle.std.proofs.Math.Path.{fun_ext}
use Rattle.vx_base.specs.Arithmetic.{sum_of, difference_of, compare_of, one_if}
use Rattle.vx_base.specs.declared.arithmetic.Compare.TheVariants.{Eq}
use Rattle.vx_ast.specs.declared.tree.UnaryOperator.TheVariants.{Not}
use Rattle.vx_ast.specs.Tree.{One, Tree, Unary, Place, InLocal, InGlobal, InElement, Action, Evaluate, Assign, Compound, Increase, Decrease, Code, Nothing, Block, If, Break}
use Rattle.vx_ast.specs.Meaning.{Store, Part, With, Trapped, Going, Leaves, Falls, Breaks, Continues, Returns, Calls, and_then, unless_zero, array_at, word_at, with_word, with_scalar, index_in, at_index, at_element, unary_value, combined, value, changes, acts, go_on, after_body, after_turn, tests, turns, test_of, does}
use Rattle.vx_unroll.specs.Unrolling.{block_of, step_before, test_before, turns_of}
use Rattle.vx_unroll.specs.Laws.{step_code}
use Rattle.vx_unroll.proofs.Beside.{falls_of, copies}

on_ext : (x : Part Leaves) (f g : Store → Part Leaves) → ((s : Store) → f s ≡ g s) → go_on x f ≡ go_on x g
on_ext (With Falls s) f g h = h s
on_ext (With Breaks s) f g h = refl
on_ext (With Continues s) f g h = refl
on_ext (With (Returns r) s) f g h = refl
on_ext (Trapped k out) f g h = refl
on_ext (Going out) f g h = refl

falls_on : (x : Part Leaves) → go_on x (λ s. With Falls s) ≡ x
falls_on (With Falls s) = refl
falls_on (With Breaks s) = refl
falls_on (With Continues s) = refl
falls_on (With (Returns r) s) = refl
falls_on (Trapped k out) = refl
falls_on (Going out) = refl

-- an action only falls

falls_then : {A : Type 0} (x : Part A) (f : A → Store → Part Leaves) → ((a : A) (t : Store) → f a t ≡ falls_of (f a t)) → and_then x f ≡ falls_of (and_then x f)
falls_then (With a s) f h = h a s
falls_then (Trapped k out) f h = refl
falls_then (Going out) f h = refl

falls_index : (o : Option ℕ) (s : Store) (f : ℕ → Part Leaves) → ((i : ℕ) → f i ≡ falls_of (f i)) → at_index o s f ≡ falls_of (at_index o s f)
falls_index None s f h = refl
falls_index (Some i) s f h = h i

module _ (spot : ℕ → ℕ) (calls : Calls) where
  changes_fall : (p : Place) (new : ℤ → Store → Part ℤ) (s : Store) → changes spot calls p new s ≡ falls_of (changes spot calls p new s)
  changes_fall (InLocal x) new s = falls_then (new (s.scalars x) s) (λ v t. With Falls (with_scalar t x v)) (λ v t. refl)
  changes_fall (InGlobal a) new s = falls_then (new (word_at s (spot a) 0) s) (λ v t. With Falls (with_word t (spot a) 0 v)) (λ v t. refl)
  changes_fall (InElement a i) new s =
      falls_then (value spot calls i s) (λ index t. at_element (spot a) index t (λ j. and_then (new (word_at t (spot a) j) t) (λ v u. With Falls (with_word u (spot a) j v))))
      (λ index t. falls_index (index_in (length (array_at t (spot a))) index) t (λ j. and_then (new (word_at t (spot a) j) t) (λ v u. With Falls (with_word u (spot a) j v)))
      (λ j. falls_then (new (word_at t (spot a) j) t) (λ v u. With Falls (with_word u (spot a) j v)) (λ v u. refl)))

  acts_fall : (a : Action) (s : Store) → acts spot calls a s ≡ falls_of (acts spot calls a s)
  acts_fall (Evaluate e) s = falls_then (value spot calls e s) (λ v t. With Falls t) (λ v t. refl)
  acts_fall (Assign p e) s = changes_fall p (λ old t. value spot calls e t) s
  acts_fall (Compound p operator e) s = changes_fall p (λ old t. and_then (value spot calls e t) (λ v u. combined operator old v u)) s
  acts_fall (Increase p) s = changes_fall p (λ old t. With (sum_of old (pos 1)) t) s
  acts_fall (Decrease p) s = changes_fall p (λ old t. With (difference_of old (pos 1)) t) s

  pub step_falls : (n : ℕ) (step : Option Action) (s : Store) → does spot calls n (step_code step) s ≡ falls_of (does spot calls n (step_code step) s)
  step_falls n None s = refl
  step_falls n (Some a) s = acts_fall a s

-- `if (!(c)) break;` is the test

positive : (n : ℕ) → compare_of Eq (pos (suc n)) (pos 0) ≡ false
positive n = grind arith

test_turned : (x : Part ℤ) (f : Store → Part Leaves) → go_on (tests (and_then x (λ z t. With (unary_value Not z) t)) (λ w. With Breaks w) (λ w. With Falls w)) f ≡ tests x f (λ w. With Breaks w)
test_turned (With (pos zero) s) f = refl
test_turned (With (pos (suc n)) s) f = ap (λ (b : Bool). go_on (unless_zero (one_if b) (With Breaks s) (With Falls s)) f) (positive n)
test_turned (With (negsuc n) s) f = refl
test_turned (Trapped k out) f = refl
test_turned (Going out) f = refl

module _ (spot : ℕ → ℕ) (calls : Calls) (n : ℕ) where
  step_is : (step : Option Action) (rest : Code) (f : Store → Part Leaves) → ((v : Store) → does spot calls n rest v ≡ f v) → (u : Store) → does spot calls n (step_before step rest) u ≡ go_on (does spot calls n (step_code step) u) f
  step_is None rest f h u = h u
  step_is (Some a) rest f h u = on_ext (acts spot calls a u) (does spot calls n rest) f h

  test_is : (test : Option (Tree One)) (rest : Code) (f : Store → Part Leaves) → ((v : Store) → does spot calls n rest v ≡ f v) → (v : Store) → does spot calls n (test_before test rest) v ≡ tests (test_of spot calls test v) f (λ w. With Breaks w)
  test_is None rest f h v = h v
  test_is (Some c) rest f h v = on_ext (does spot calls n (If (Unary Not c) Break) v) (does spot calls n rest) f h ∙ test_turned (value spot calls c v) f

  -- a block does what its list does
  block_does : (a : Code) (t : Store) → does spot calls n (block_of a) t ≡ does spot calls n a t
  block_does (Block a) t = refl
  block_does a t = falls_on (does spot calls n a t)

  copies_are : (test : Option (Tree One)) (step : Option Action) (a : Code) (i : ℕ) (t : Store) → does spot calls n (turns_of i test step a) t ≡ copies (test_of spot calls test) (does spot calls n a) (does spot calls n (step_code step)) i t
  copies_are test step a zero t = ap (λ (x : Part Leaves). go_on x (does spot calls n Nothing)) (block_does a t) ∙ on_ext (does spot calls n a t) (does spot calls n Nothing) (λ u. With Falls u) (λ u. refl)
  copies_are test step a (suc i) t =
      let more : Store → Part Leaves = copies (test_of spot calls test) (does spot calls n a) (does spot calls n (step_code step)) i in
      let behind : Store → Part Leaves = λ v. tests (test_of spot calls test v) more (λ w. With Breaks w) in
      let rest : Store → Part Leaves = does spot calls n (step_before step (test_before test (turns_of i test step a))) in
      ap (λ (x : Part Leaves). go_on x rest) (block_does a t)
      ∙ on_ext (does spot calls n a t) rest (λ u. go_on (does spot calls n (step_code step) u) behind)
      (step_is step (test_before test (turns_of i test step a)) behind (test_is test (turns_of i test step a) more (copies_are test step a i)))

  abbrev pub often : Option (Tree One) → Option Action → Code → ℕ → Store → Part Leaves
  often test step a k t = after_body (copies (test_of spot calls test) (does spot calls n a) (does spot calls n (step_code step)) k t) (does spot calls n (step_code step))

  abbrev pub blocked : Option (Tree One) → Option Action → Code → ℕ → Store → Part Leaves
  blocked test step a k t = after_body (does spot calls n (Block (turns_of k test step a)) t) (does spot calls n (step_code step))

  pub often_is : (test : Option (Tree One)) (step : Option Action) (a : Code) (k : ℕ) → often test step a k ≡ blocked test step a k
  often_is test step a k = fun_ext (λ t. ap (λ (x : Part Leaves). after_body x (does spot calls n (step_code step))) (sym (copies_are test step a k t)))

-- a `while` has no step

turns_ext : (test : Store → Part ℤ) (f g : Store → Part Leaves) → ((t : Store) (h : Store → Part Leaves) → after_turn (f t) h ≡ after_turn (g t) h) → (n : ℕ) (s : Store) → turns n test f s ≡ turns n test g s
turns_ext test f g e zero s = refl
turns_ext test f g e (suc n) s =
    ap (λ (r : Store → Part Leaves). tests (test s) r (λ t. With Falls t))
    (fun_ext (λ t. e t (turns n test f) ∙ ap (λ (r : Store → Part Leaves). after_turn (g t) r) (fun_ext (λ u. turns_ext test f g e n u))))

plain_turn : (x : Part Leaves) (h : Store → Part Leaves) → after_turn (after_body x (λ u. With Falls u)) h ≡ after_turn x h
plain_turn (With Falls s) h = refl
plain_turn (With Breaks s) h = refl
plain_turn (With Continues s) h = refl
plain_turn (With (Returns r) s) h = refl
plain_turn (Trapped k out) h = refl
plain_turn (Going out) h = refl

pub plain_turns : (test : Store → Part ℤ) (turn : Store → Part Leaves) (n : ℕ) (s : Store) → turns n test (λ t. after_body (turn t) (λ u. With Falls u)) s ≡ turns n test turn s
plain_turns test turn n s = turns_ext test (λ t. after_body (turn t) (λ u. With Falls u)) turn (λ t h. plain_turn (turn t) h) n s
