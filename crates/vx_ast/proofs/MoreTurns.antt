-- More turns change no end and only add output: what a part of a program does within a bound, beside what it does
-- within a larger one.
use Rattle.std.proofs.Common.{◌≡◌, ℕ, zero, suc, ◌+◌, ℤ, pos, negsuc, Bool, true, false, List, [], ◌∷◌, length, Option, Some, None, slice_get, refl, sym, ap, subst, arith}
use Rattle.std.specs.Prelude.{if◌then◌else◌}
use Rattle.vx_base.specs.Outcome.{output_of, IsGoing, Begins, Steady}
use Rattle.vx_base.specs.declared.outcome.Trap.{Trap}
use Rattle.vx_base.specs.Arithmetic.{sum_of, difference_of}
use Rattle.vx_base.specs.declared.outcome.Trap.TheVariants.{Divide as ByDivide, Depth as ByDepth}
use Rattle.vx_base.proofs.Same.{begins_self, begins_on}
use Rattle.vx_ast.specs.declared.tree.BinaryOperator.{BinaryOperator}
use Rattle.vx_ast.specs.Tree.{Shape, One, Tree, Literal, Local, Global, Element, Unary, Binary, Both, Either, Choice, Apply, ReadInt, MoreInput, NoMore, Then, Hand, Place, InLocal, InGlobal, InElement, Action, Evaluate, Assign, Compound, Increase, Decrease, Code, Nothing, Seq, Empty, Block, Clear, Declare, ClearArray, Simply, Head, Print, If, IfElse, While, DoWhile, For, Break, Continue, Return, ReturnValue, Function, Program}
use Rattle.vx_ast.specs.Meaning.{Store, Part, With, Trapped, Going, Leaves, Falls, Breaks, Continues, Returns, Calls, Argument, NumberArgument, ArrayArgument, numbers_given, arrays_given, and_then, unless_zero, array_at, word_at, with_word, cleared, with_scalar, at_index, at_element, index_in, unary_value, binary_value, divides, combined, next_input, value, changes, acts, pieces_of, printed, prints, go_on, after_body, after_turn, tests, turns, turns_first, test_of, does, spot_in, back_in, result_of, entered, activate, active, deepest, at_start, outcome_of, source}

-- the output at the end of a part
abbrev pub out_of : {A : Type 0} → Part A → List ℕ
out_of (With a s) = s.out
out_of (Trapped k out) = out
out_of (Going out) = out

-- within a larger bound the end is the same, and what goes on prints at least as much
abbrev pub Later : {A : Type 0} → Part A → Part A → Type 0
Later (With a s) y = y ≡ With a s
Later (Trapped k out) y = y ≡ Trapped k out
Later (Going out) y = Begins out (out_of y)

-- x and y begin with so much output, and y is x within a larger bound
pub record Leads {A : Type 0} (out : List ℕ) (x y : Part A) : Type 0 where
  pub later : Later x y
  pub grows : Begins out (out_of y)

later_self : {A : Type 0} (x : Part A) → Later x x
later_self (With a s) = refl
later_self (Trapped k out) = refl
later_self (Going out) = begins_self out

pub leads_self : {A : Type 0} (out : List ℕ) (x : Part A) → Begins out (out_of x) → Leads out x x
leads_self out x b = record { later = later_self x; grows = b }

-- what has no part that takes turns
pub leads_same : {A : Type 0} (x : Part A) → Leads (out_of x) x x
leads_same x = leads_self (out_of x) x (begins_self (out_of x))

pub leads_from : {A : Type 0} (out more : List ℕ) (x y : Part A) → Begins out more → Leads more x y → Leads out x y
leads_from out more x y b h = record { later = h.later; grows = begins_on out more (out_of y) b h.grows }

pub leads_going : {A : Type 0} (out : List ℕ) (y : Part A) → Begins out (out_of y) → Leads out (Going out) y
leads_going out y b = record { later = b; grows = b }

-- one part behind another

pub then_grows : {A B : Type 0} (out : List ℕ) (y : Part A) (g : A → Store → Part B) → Begins out (out_of y) → ((a : A) (t : Store) → Begins t.out (out_of (g a t))) → Begins out (out_of (and_then y g))
then_grows out (With a s) g b h = begins_on out s.out (out_of (g a s)) b (h a s)
then_grows out (Trapped k o) g b h = b
then_grows out (Going o) g b h = b

pub leads_then : {A B : Type 0} (out : List ℕ) (x y : Part A) (f g : A → Store → Part B) → Leads out x y → ((a : A) (t : Store) → Leads t.out (f a t) (g a t)) → Leads out (and_then x f) (and_then y g)
leads_then out (With a s) y f g h k =
    let e : With a s ≡ y = sym h.later in
    let b : Begins out s.out = subst (λ z. Begins out (out_of z)) h.later h.grows in
    subst (λ z. Leads out (f a s) (and_then z g)) e (leads_from out s.out (f a s) (g a s) b (k a s))
leads_then out (Trapped trap o) y f g h k =
    let e : Trapped trap o ≡ y = sym h.later in
    let b : Begins out o = subst (λ z. Begins out (out_of z)) h.later h.grows in
    subst (λ z. Leads out (Trapped trap o) (and_then z g)) e (leads_self out (Trapped trap o) b)
leads_then out (Going o) y f g h k = record {
  later = then_grows o y g h.later (λ a t. (k a t).grows);
  grows = then_grows out y g h.grows (λ a t. (k a t).grows);
}

pub leads_unless : {A : Type 0} (out : List ℕ) (z : ℤ) (a b c d : Part A) → Leads out a b → Leads out c d → Leads out (unless_zero z a c) (unless_zero z b d)
leads_unless out (pos zero) a b c d h k = k
leads_unless out (pos (suc n)) a b c d h k = h
leads_unless out (negsuc n) a b c d h k = h

leads_index : {A : Type 0} (o : Option ℕ) (s : Store) (f g : ℕ → Part A) → ((i : ℕ) → Leads s.out (f i) (g i)) → Leads s.out (at_index o s f) (at_index o s g)
leads_index None s f g h = leads_same (at_index None s f)
leads_index (Some i) s f g h = h i

leads_divided : (z : ℤ) (v : ℤ) (s : Store) (k : Trap) → Leads s.out (unless_zero z (With v s) (Trapped k s.out)) (unless_zero z (With v s) (Trapped k s.out))
leads_divided z v s k = leads_unless s.out z (With v s) (With v s) (Trapped k s.out) (Trapped k s.out) (leads_same (With v s)) (let p : Part ℤ = Trapped k s.out in leads_same p)

divided_if : (b : Bool) (z v : ℤ) (s : Store) (k : Trap) → Leads s.out (if b then unless_zero z (With v s) (Trapped k s.out) else With v s) (if b then unless_zero z (With v s) (Trapped k s.out) else With v s)
divided_if true z v s k = leads_divided z v s k
divided_if false z v s k = leads_same (With v s)

leads_combined : (operator : BinaryOperator) (x y : ℤ) (s : Store) → Leads s.out (combined operator x y s) (combined operator x y s)
leads_combined operator x y s = divided_if (divides operator) y (binary_value operator x y) s ByDivide

leads_input : (xs : List ℤ) (s : Store) → Leads s.out (next_input xs s) (next_input xs s)
leads_input [] s = leads_same (next_input [] s)
leads_input (x ∷ xs) s = leads_same (next_input (x ∷ xs) s)

leads_truth : (y : ℤ) (s : Store) → Leads {A = ℤ} s.out (With (unless_zero y (pos 1) (pos 0)) s) (With (unless_zero y (pos 1) (pos 0)) s)
leads_truth y s = leads_same (With (unless_zero y (pos 1) (pos 0)) s)

-- expressions

-- the calls of one bound, and those of a larger one
abbrev pub CallsLead : Calls → Calls → Type 0
CallsLead calls more = (f : ℕ) (xs : List Argument) (s : Store) → Leads s.out (calls f xs s) (more f xs s)

module _ (spot : ℕ → ℕ) (calls more : Calls) (lead : CallsLead calls more) where
  pub leads_value : {k : Shape} (e : Tree k) (s : Store) → Leads s.out (value spot calls e s) (value spot more e s)
  leads_value (Literal z) s = leads_same (With z s)
  leads_value (Local x) s = leads_same (With (s.scalars x) s)
  leads_value (Global a) s = leads_same (value spot calls (Global a) s)
  leads_value (Element a i) s =
      leads_then s.out (value spot calls i s) (value spot more i s) (λ index t. at_element (spot a) index t (λ j. With (word_at t (spot a) j) t)) (λ index t. at_element (spot a) index t (λ j. With (word_at t (spot a) j) t)) (leads_value i s)
      (λ index t. leads_index (index_in (length (array_at t (spot a))) index) t (λ j. With (word_at t (spot a) j) t) (λ j. With (word_at t (spot a) j) t) (λ j. leads_same (With (word_at t (spot a) j) t)))
  leads_value (Unary operator a) s =
      leads_then s.out (value spot calls a s) (value spot more a s) (λ x t. With (unary_value operator x) t) (λ x t. With (unary_value operator x) t) (leads_value a s) (λ x t. leads_same (With (unary_value operator x) t))
  leads_value (Binary operator a b) s =
      leads_then s.out (value spot calls a s) (value spot more a s) (λ x t. and_then (value spot calls b t) (λ y u. combined operator x y u)) (λ x t. and_then (value spot more b t) (λ y u. combined operator x y u)) (leads_value a s)
      (λ x t. leads_then t.out (value spot calls b t) (value spot more b t) (λ y u. combined operator x y u) (λ y u. combined operator x y u) (leads_value b t) (λ y u. leads_combined operator x y u))
  leads_value (Both a b) s =
      leads_then s.out (value spot calls a s) (value spot more a s) _ _ (leads_value a s)
      (λ x t. leads_unless t.out x _ _ _ _ (leads_then t.out (value spot calls b t) (value spot more b t) _ _ (leads_value b t) leads_truth) (leads_same (With (pos 0) t)))
  leads_value (Either a b) s =
      leads_then s.out (value spot calls a s) (value spot more a s) _ _ (leads_value a s)
      (λ x t. leads_unless t.out x _ _ _ _ (leads_same (With (pos 1) t)) (leads_then t.out (value spot calls b t) (value spot more b t) _ _ (leads_value b t) leads_truth))
  leads_value (Choice c a b) s =
      leads_then s.out (value spot calls c s) (value spot more c s) _ _ (leads_value c s)
      (λ x t. leads_unless t.out x _ _ _ _ (leads_value a t) (leads_value b t))
  leads_value (Apply f row) s =
      leads_then s.out (value spot calls row s) (value spot more row s) (λ xs t. calls f xs t) (λ xs t. more f xs t) (leads_value row s) (λ xs t. lead f xs t)
  leads_value ReadInt s = leads_input s.input s
  leads_value MoreInput s = leads_same (value spot calls MoreInput s)
  leads_value NoMore s = leads_same (value spot calls NoMore s)
  leads_value (Then a rest) s =
      leads_then s.out (value spot calls a s) (value spot more a s) _ _ (leads_value a s)
      (λ x t. leads_then t.out (value spot calls rest t) (value spot more rest t) (λ xs u. With (NumberArgument x ∷ xs) u) (λ xs u. With (NumberArgument x ∷ xs) u) (leads_value rest t) (λ xs u. leads_same (With (NumberArgument x ∷ xs) u)))
  leads_value (Hand a rest) s =
      leads_then s.out (value spot calls rest s) (value spot more rest s) (λ xs u. With (ArrayArgument (spot a) ∷ xs) u) (λ xs u. With (ArrayArgument (spot a) ∷ xs) u) (leads_value rest s) (λ xs u. leads_same (With (ArrayArgument (spot a) ∷ xs) u))

  -- simple statements

  leads_changes : (p : Place) (new newer : ℤ → Store → Part ℤ) (s : Store) → ((old : ℤ) (t : Store) → Leads t.out (new old t) (newer old t)) → Leads s.out (changes spot calls p new s) (changes spot more p newer s)
  leads_changes (InLocal x) new newer s h = leads_then s.out (new (s.scalars x) s) (newer (s.scalars x) s) _ _ (h (s.scalars x) s) (λ v t. leads_same (With Falls (with_scalar t x v)))
  leads_changes (InGlobal a) new newer s h =
      leads_then s.out (new (word_at s (spot a) 0) s) (newer (word_at s (spot a) 0) s) _ _ (h (word_at s (spot a) 0) s) (λ v t. leads_same (With Falls (with_word t (spot a) 0 v)))
  leads_changes (InElement a i) new newer s h =
      leads_then s.out (value spot calls i s) (value spot more i s) _ _ (leads_value i s)
      (λ index t. leads_index (index_in (length (array_at t (spot a))) index) t (λ j. and_then (new (word_at t (spot a) j) t) (λ v u. With Falls (with_word u (spot a) j v))) (λ j. and_then (newer (word_at t (spot a) j) t) (λ v u. With Falls (with_word u (spot a) j v)))
      (λ j. leads_then t.out (new (word_at t (spot a) j) t) (newer (word_at t (spot a) j) t) _ _ (h (word_at t (spot a) j) t) (λ v u. leads_same (With Falls (with_word u (spot a) j v)))))

  pub leads_acts : (a : Action) (s : Store) → Leads s.out (acts spot calls a s) (acts spot more a s)
  leads_acts (Evaluate e) s = leads_then s.out (value spot calls e s) (value spot more e s) _ _ (leads_value e s) (λ v t. leads_same (With Falls t))
  leads_acts (Assign p e) s = leads_changes p (λ old t. value spot calls e t) (λ old t. value spot more e t) s (λ old t. leads_value e t)
  leads_acts (Compound p operator e) s =
      leads_changes p (λ old t. and_then (value spot calls e t) (λ v u. combined operator old v u)) (λ old t. and_then (value spot more e t) (λ v u. combined operator old v u)) s
      (λ old t. leads_then t.out (value spot calls e t) (value spot more e t) (λ v u. combined operator old v u) (λ v u. combined operator old v u) (leads_value e t) (λ v u. leads_combined operator old v u))
  leads_acts (Increase p) s = leads_changes p (λ old t. With (sum_of old (pos 1)) t) (λ old t. With (sum_of old (pos 1)) t) s (λ old t. leads_same (With (sum_of old (pos 1)) t))
  leads_acts (Decrease p) s = leads_changes p (λ old t. With (difference_of old (pos 1)) t) (λ old t. With (difference_of old (pos 1)) t) s (λ old t. leads_same (With (difference_of old (pos 1)) t))

-- loops

pub leads_tests : (out : List ℕ) (x y : Part ℤ) (f g no_f no_g : Store → Part Leaves) → Leads out x y → ((t : Store) → Leads t.out (f t) (g t)) → ((t : Store) → Leads t.out (no_f t) (no_g t)) → Leads out (tests x f no_f) (tests y g no_g)
leads_tests out x y f g no_f no_g h k l = leads_then out x y _ _ h (λ c t. leads_unless t.out c (f t) (g t) (no_f t) (no_g t) (k t) (l t))

-- what follows a statement, by how it is left

abbrev on_leaving : (Store → Part Leaves) → Leaves → Store → Part Leaves
on_leaving f Falls s = f s
on_leaving f Breaks s = With Breaks s
on_leaving f Continues s = With Continues s
on_leaving f (Returns r) s = With (Returns r) s

abbrev body_leaving : (Store → Part Leaves) → Leaves → Store → Part Leaves
body_leaving f Falls s = f s
body_leaving f Breaks s = With Breaks s
body_leaving f Continues s = f s
body_leaving f (Returns r) s = With (Returns r) s

abbrev turn_leaving : (Store → Part Leaves) → Leaves → Store → Part Leaves
turn_leaving f Falls s = f s
turn_leaving f Breaks s = With Falls s
turn_leaving f Continues s = f s
turn_leaving f (Returns r) s = With (Returns r) s

on_is : (x : Part Leaves) (f : Store → Part Leaves) → go_on x f ≡ and_then x (on_leaving f)
on_is (With Falls s) f = refl
on_is (With Breaks s) f = refl
on_is (With Continues s) f = refl
on_is (With (Returns r) s) f = refl
on_is (Trapped k out) f = refl
on_is (Going out) f = refl

body_is : (x : Part Leaves) (f : Store → Part Leaves) → after_body x f ≡ and_then x (body_leaving f)
body_is (With Falls s) f = refl
body_is (With Breaks s) f = refl
body_is (With Continues s) f = refl
body_is (With (Returns r) s) f = refl
body_is (Trapped k out) f = refl
body_is (Going out) f = refl

turn_is : (x : Part Leaves) (f : Store → Part Leaves) → after_turn x f ≡ and_then x (turn_leaving f)
turn_is (With Falls s) f = refl
turn_is (With Breaks s) f = refl
turn_is (With Continues s) f = refl
turn_is (With (Returns r) s) f = refl
turn_is (Trapped k out) f = refl
turn_is (Going out) f = refl

module _ (f g : Store → Part Leaves) (k : (t : Store) → Leads t.out (f t) (g t)) where
  on_leads : (l : Leaves) (t : Store) → Leads t.out (on_leaving f l t) (on_leaving g l t)
  on_leads Falls t = k t
  on_leads Breaks t = leads_same (With Breaks t)
  on_leads Continues t = leads_same (With Continues t)
  on_leads (Returns r) t = leads_same (With (Returns r) t)

  body_leads : (l : Leaves) (t : Store) → Leads t.out (body_leaving f l t) (body_leaving g l t)
  body_leads Falls t = k t
  body_leads Breaks t = leads_same (With Breaks t)
  body_leads Continues t = k t
  body_leads (Returns r) t = leads_same (With (Returns r) t)

  turn_leads : (l : Leaves) (t : Store) → Leads t.out (turn_leaving f l t) (turn_leaving g l t)
  turn_leads Falls t = k t
  turn_leads Breaks t = leads_same (With Falls t)
  turn_leads Continues t = k t
  turn_leads (Returns r) t = leads_same (With (Returns r) t)

  module _ (out : List ℕ) (x y : Part Leaves) (h : Leads out x y) where
    pub leads_on : Leads out (go_on x f) (go_on y g)
    leads_on = rw (on_is x f, on_is y g) (leads_then out x y (on_leaving f) (on_leaving g) h on_leads)

    pub leads_body : Leads out (after_body x f) (after_body y g)
    leads_body = rw (body_is x f, body_is y g) (leads_then out x y (body_leaving f) (body_leaving g) h body_leads)

    pub leads_turn : Leads out (after_turn x f) (after_turn y g)
    leads_turn = rw (turn_is x f, turn_is y g) (leads_then out x y (turn_leaving f) (turn_leaving g) h turn_leads)

module _ (test newer_test : Store → Part ℤ) (turn newer_turn : Store → Part Leaves) (tested : (s : Store) → Leads s.out (test s) (newer_test s)) (turned : (s : Store) → Leads s.out (turn s) (newer_turn s)) where
  falls_same : (t : Store) → Leads t.out (With Falls t) (With Falls t)
  falls_same t = leads_same (With Falls t)

  going_same : (t : Store) → Leads {A = Leaves} t.out (Going t.out) (Going t.out)
  going_same t = let p : Part Leaves = Going t.out in leads_same p

  -- no turn more than the tests, beside some
  none_leads : (k : ℕ) (s : Store) → Leads s.out (turns zero test turn s) (turns k newer_test newer_turn s)
  none_leads zero s = leads_tests s.out (test s) (newer_test s) (λ t. Going t.out) (λ t. Going t.out) (λ t. With Falls t) (λ t. With Falls t) (tested s) going_same falls_same
  none_leads (suc k) s =
      leads_tests s.out (test s) (newer_test s) (λ t. Going t.out) (λ t. after_turn (newer_turn t) (turns k newer_test newer_turn)) (λ t. With Falls t) (λ t. With Falls t) (tested s)
      (λ t. leads_going t.out (after_turn (newer_turn t) (turns k newer_test newer_turn)) (leads_turn (turns zero test turn) (turns k newer_test newer_turn) (none_leads k) t.out (turn t) (newer_turn t) (turned t)).grows) falls_same

  pub leads_turns : (n k : ℕ) (s : Store) → Leads s.out (turns n test turn s) (turns (n + k) newer_test newer_turn s)
  leads_turns zero k s = let q : 0 + k ≡ k = omega arith in subst (λ j. Leads s.out (turns zero test turn s) (turns j newer_test newer_turn s)) (sym q) (none_leads k s)
  leads_turns (suc n) k s =
      let q : suc n + k ≡ suc (n + k) = omega arith in
      subst (λ j. Leads s.out (turns (suc n) test turn s) (turns j newer_test newer_turn s)) (sym q)
      (leads_tests s.out (test s) (newer_test s) (λ t. after_turn (turn t) (turns n test turn)) (λ t. after_turn (newer_turn t) (turns (n + k) newer_test newer_turn)) (λ t. With Falls t) (λ t. With Falls t) (tested s)
      (λ t. leads_turn (turns n test turn) (turns (n + k) newer_test newer_turn) (leads_turns n k) t.out (turn t) (newer_turn t) (turned t)) falls_same)

  none_leads_first : (k : ℕ) (s : Store) → Leads s.out (turns_first zero test turn s) (turns_first k newer_test newer_turn s)
  none_leads_first zero s = going_same s
  none_leads_first (suc k) s =
      leads_going s.out (turns_first (suc k) newer_test newer_turn s)
      (leads_turn (λ t. tests (test t) (turns_first zero test turn) (λ u. With Falls u)) (λ t. tests (newer_test t) (turns_first k newer_test newer_turn) (λ u. With Falls u))
      (λ t. leads_tests t.out (test t) (newer_test t) (turns_first zero test turn) (turns_first k newer_test newer_turn) (λ u. With Falls u) (λ u. With Falls u) (tested t) (none_leads_first k) falls_same)
      s.out (turn s) (newer_turn s) (turned s)).grows

  pub leads_turns_first : (n k : ℕ) (s : Store) → Leads s.out (turns_first n test turn s) (turns_first (n + k) newer_test newer_turn s)
  leads_turns_first zero k s = let q : 0 + k ≡ k = omega arith in subst (λ j. Leads s.out (turns_first zero test turn s) (turns_first j newer_test newer_turn s)) (sym q) (none_leads_first k s)
  leads_turns_first (suc n) k s =
      let q : suc n + k ≡ suc (n + k) = omega arith in
      subst (λ j. Leads s.out (turns_first (suc n) test turn s) (turns_first j newer_test newer_turn s)) (sym q)
      (leads_turn (λ t. tests (test t) (turns_first n test turn) (λ u. With Falls u)) (λ t. tests (newer_test t) (turns_first (n + k) newer_test newer_turn) (λ u. With Falls u))
      (λ t. leads_tests t.out (test t) (newer_test t) (turns_first n test turn) (turns_first (n + k) newer_test newer_turn) (λ u. With Falls u) (λ u. With Falls u) (tested t) (leads_turns_first n k) falls_same)
      s.out (turn s) (newer_turn s) (turned s))

-- statements

module _ (spot : ℕ → ℕ) (calls more : Calls) (lead : CallsLead calls more) (n k : ℕ) where
  leads_test : (test : Option (Tree One)) (s : Store) → Leads s.out (test_of spot calls test s) (test_of spot more test s)
  leads_test None s = leads_same (With (pos 1) s)
  leads_test (Some e) s = leads_value spot calls more lead e s

  pub leads_does : (c : Code) (s : Store) → Leads s.out (does spot calls n c s) (does spot more (n + k) c s)
  leads_does Nothing s = leads_same (With Falls s)
  leads_does (Seq a b) s = leads_on (does spot calls n b) (does spot more (n + k) b) (leads_does b) s.out (does spot calls n a s) (does spot more (n + k) a s) (leads_does a s)
  leads_does Empty s = leads_same (With Falls s)
  leads_does (Block a) s = leads_does a s
  leads_does (Clear x) s = leads_same (With Falls (with_scalar s x (pos 0)))
  leads_does (Declare x e) s = leads_then s.out (value spot calls e s) (value spot more e s) _ _ (leads_value spot calls more lead e s) (λ v t. leads_same (With Falls (with_scalar t x v)))
  leads_does (ClearArray a) s = leads_same (With Falls (cleared s (spot a)))
  leads_does (Simply a) s = leads_acts spot calls more lead a s
  leads_does (Head a) s = leads_acts spot calls more lead a s
  leads_does (Print format row) s =
      leads_then s.out (value spot calls row s) (value spot more row s) _ _ (leads_value spot calls more lead row s) (λ xs t. leads_self t.out (With Falls (prints (printed (pieces_of format) (numbers_given xs)) t)) (record { rest = printed (pieces_of format) (numbers_given xs); is = refl }))
  leads_does (If e a) s =
      leads_tests s.out (value spot calls e s) (value spot more e s) (does spot calls n a) (does spot more (n + k) a) (λ t. With Falls t) (λ t. With Falls t) (leads_value spot calls more lead e s) (leads_does a) (λ t. leads_same (With Falls t))
  leads_does (IfElse e a b) s =
      leads_tests s.out (value spot calls e s) (value spot more e s) (does spot calls n a) (does spot more (n + k) a) (does spot calls n b) (does spot more (n + k) b) (leads_value spot calls more lead e s) (leads_does a) (leads_does b)
  leads_does (While e a) s = leads_turns (value spot calls e) (value spot more e) (does spot calls n a) (does spot more (n + k) a) (leads_value spot calls more lead e) (leads_does a) n k s
  leads_does (DoWhile a e) s = leads_turns_first (value spot calls e) (value spot more e) (does spot calls n a) (does spot more (n + k) a) (leads_value spot calls more lead e) (leads_does a) n k s
  leads_does (For first test step a) s =
      leads_on (turns n (test_of spot calls test) (λ t. after_body (does spot calls n a t) (does spot calls n step))) (turns (n + k) (test_of spot more test) (λ t. after_body (does spot more (n + k) a t) (does spot more (n + k) step)))
      (leads_turns (test_of spot calls test) (test_of spot more test) (λ t. after_body (does spot calls n a t) (does spot calls n step)) (λ t. after_body (does spot more (n + k) a t) (does spot more (n + k) step)) (leads_test test)
      (λ t. leads_body (does spot calls n step) (does spot more (n + k) step) (leads_does step) t.out (does spot calls n a t) (does spot more (n + k) a t) (leads_does a t)) n k)
      s.out (does spot calls n first s) (does spot more (n + k) first s) (leads_does first s)
  leads_does Break s = leads_same (With Breaks s)
  leads_does Continue s = leads_same (With Continues s)
  leads_does Return s = leads_same (With (Returns (pos 0)) s)
  leads_does (ReturnValue e) s = leads_then s.out (value spot calls e s) (value spot more e s) _ _ (leads_value spot calls more lead e s) (λ v t. leads_same (With (Returns v) t))

-- calls

abbrev back_leaving : Store → Leaves → Store → Part ℤ
back_leaving caller Falls s = back_in caller (pos 0) s
back_leaving caller Breaks s = back_in caller (pos 0) s
back_leaving caller Continues s = back_in caller (pos 0) s
back_leaving caller (Returns r) s = back_in caller r s

back_is : (caller : Store) (x : Part Leaves) → result_of caller x ≡ and_then x (back_leaving caller)
back_is caller (With Falls s) = refl
back_is caller (With Breaks s) = refl
back_is caller (With Continues s) = refl
back_is caller (With (Returns r) s) = refl
back_is caller (Trapped k out) = refl
back_is caller (Going out) = refl

back_leads : (caller : Store) (l : Leaves) (t : Store) → Leads t.out (back_leaving caller l t) (back_leaving caller l t)
back_leads caller Falls t = leads_same (back_in caller (pos 0) t)
back_leads caller Breaks t = leads_same (back_in caller (pos 0) t)
back_leads caller Continues t = leads_same (back_in caller (pos 0) t)
back_leads caller (Returns r) t = leads_same (back_in caller r t)

leads_result : (caller : Store) (out : List ℕ) (x y : Part Leaves) → Leads out x y → Leads out (result_of caller x) (result_of caller y)
leads_result caller out x y h = rw (back_is caller x, back_is caller y) (leads_then out x y (back_leaving caller) (back_leaving caller) h (back_leads caller))

leads_activate : (g : ℕ) (o : Option Function) (calls more : Calls) → CallsLead calls more → (n k : ℕ) (args : List Argument) (s : Store) → Leads s.out (activate g o calls n args s) (activate g o more (n + k) args s)
leads_activate g None calls more lead n k args s = let p : Part ℤ = Going s.out in leads_same p
leads_activate g (Some f) calls more lead n k args s =
    leads_result s s.out (does (spot_in g (arrays_given args) (length s.arrays)) calls n f.body (entered f args s)) (does (spot_in g (arrays_given args) (length s.arrays)) more (n + k) f.body (entered f args s))
    (leads_does (spot_in g (arrays_given args) (length s.arrays)) calls more lead n k f.body (entered f args s))

pub leads_active : (p : Program) (depth n k : ℕ) → CallsLead (active p depth n) (active p depth (n + k))
leads_active p zero n k f args s = let x : Part ℤ = Trapped ByDepth s.out in leads_same x
leads_active p (suc depth) n k f args s = leads_activate (length p.globals) (slice_get p.functions f) (active p depth n) (active p depth (n + k)) (leads_active p depth n k) n k args s

-- programs

stays_of : (x y : Part ℤ) → Later x y → (IsGoing (outcome_of x) → ⊥) → outcome_of y ≡ outcome_of x
stays_of (With r s) y h stop = ap outcome_of h
stays_of (Trapped k out) y h stop = ap outcome_of h
stays_of (Going out) y h stop = absurd (stop tt)

out_is : (x : Part ℤ) → output_of (outcome_of x) ≡ out_of x
out_is (With r s) = refl
out_is (Trapped k out) = refl
out_is (Going out) = refl

later_grows : (x y : Part ℤ) → Later x y → Begins (out_of x) (out_of y)
later_grows (With r s) y h = subst (λ z. Begins s.out (out_of z)) (sym h) (begins_self s.out)
later_grows (Trapped k out) y h = subst (λ z. Begins out (out_of z)) (sym h) (begins_self out)
later_grows (Going out) y h = h

-- with more turns what a program does stays, and its output only grows
pub source_steady : (p : Program) (input : List ℤ) → Steady (source p input)
source_steady p input = record {
  stays = λ n k stop. stays_of _ _ (leads_active p deepest n k p.main [] (at_start p input)).later stop;
  grows = λ n k. rw (out_is (active p deepest n p.main [] (at_start p input)), out_is (active p deepest (n + k) p.main [] (at_start p input))) (later_grows _ _ (leads_active p deepest n k p.main [] (at_start p input)).later);
}
