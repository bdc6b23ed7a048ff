-- The pieces of the simulation of expressions: what a state has after them, and how one operation, a test, a check and
-- an operator lead there.
use Rattle.std.proofs.Common.{◌≡◌, ℕ, zero, suc, ◌<◌, ◌≤◌, ◌⊎◌, ◌^◌, ℤ, pos, negsuc, Bool, true, false, cond, List, [], ◌∷◌, length, map, slice_index_or, Option, Some, None, refl, sym, ap, ◌∙◌, subst, arith, ltb-true}
use Rattle.std.specs.Prelude.{nat_lt, slice_get}
use Rattle.std.specs.Int.{w32}
use Rattle.std.proofs.lemmas.Int.{fits_signed_from_abs}
use Rattle.vx_base.specs.Arithmetic.{IsNumber, one_if, value_of, compare_of, product_of, mpylu_of, mpyhs_of, sum_of}
use Rattle.vx_base.specs.declared.arithmetic.Code.{Code}
use Rattle.vx_base.specs.declared.arithmetic.Code.TheVariants.{Add, Sub, Xor, Mov, ToGeneral, ToBranch, Mpylu, Mpyhs}
use Rattle.vx_base.specs.declared.arithmetic.Compare.{Compare}
use Rattle.vx_base.specs.declared.arithmetic.Compare.TheVariants.{Eq, Ne, Ltu}
use Rattle.vx_base.specs.declared.outcome.Trap.TheVariants.{Divide as ByDivide, Index as ByIndex}
use Rattle.vx_base.proofs.ArithmeticLaws.{value_fits_law, product_by_halves_law}
use Rattle.vx_ast.specs.declared.tree.UnaryOperator.{UnaryOperator}
use Rattle.vx_ast.specs.declared.tree.UnaryOperator.TheVariants.{Minus, Plus, Not, Complement}
use Rattle.vx_ast.specs.declared.tree.BinaryOperator.{BinaryOperator}
use Rattle.vx_ast.specs.declared.tree.BinaryOperator.TheVariants.{Multiply, Divide, Remainder, Add as Adds, Subtract, ShiftLeft, ShiftRight, Less, LessEqual, Greater, GreaterEqual, Equal, NotEqual, BitAnd, BitXor, BitOr}
use Rattle.vx_ast.specs.declared.tree.Takes.{Takes}
use Rattle.vx_ast.specs.declared.tree.Takes.TheVariants.{Number as TakesNumber, Array as TakesArray}
use Rattle.vx_ast.specs.Tree.{Shape, One, Row, Program as TreeProgram}
use Rattle.vx_ast.specs.Meaning.{Store, Part, With, Trapped, Calls, Argument, NumberArgument, ArrayArgument, numbers_given, arrays_given, Result, unless_zero, unary_value, binary_value, combined, array_at, at_index, index_in}
use Rattle.vx_ast.specs.Accepted.{Scope, is_word, is_scalar, names_array, can_call}
use Rattle.vx_flow.specs.declared.graph.Operand.{Operand}
use Rattle.vx_flow.specs.declared.graph.Operand.TheVariants.{Held, Number}
use Rattle.vx_flow.specs.declared.graph.Op.{Op}
use Rattle.vx_flow.specs.declared.graph.Op.TheVariants.{Compute}
use Rattle.vx_flow.specs.declared.graph.Exit.TheVariants.{Call}
use Rattle.vx_flow.specs.declared.graph.Block.{Block}
use Rattle.vx_flow.specs.Effects.{Content, State, Setting, held, with_value, effect}
use Rattle.vx_flow.specs.Meaning.{Program, known, with_result}
use Rattle.vx_lower.specs.Seen.{Sees, size_at, place_op}
use Rattle.vx_lower.specs.Holds.{Goes, IsBelow, Tests, Checks, Combines, single, product, quotient, unary_op, operation_of, comparison_of, Way, To, Into, Tested, Lands, fresh, into, then_op, ends}
use Rattle.vx_lower.proofs.Base.{differs_chooses, flag_chooses, is_index, index_test}
use Rattle.vx_lower.proofs.Steps.{Here, setting_at, HasBlocks, Comes, Passes, comes_on, passes_on, comes_goes, comes_past, comes_tests, Gives, stops}
use Rattle.vx_lower.proofs.Ties.{InForce, Above, Tied, Keeps, held_kept, below_on, keeps_value, value_there, computes, tied_value, source_length, Sized, held_size, size_below, places}

-- of which kind each argument is
abbrev pub takes_given : List Argument → List Takes
takes_given [] = []
takes_given (NumberArgument z ∷ rest) = TakesNumber ∷ takes_given rest
takes_given (ArrayArgument k ∷ rest) = TakesArray ∷ takes_given rest

-- what is passed for the arguments of a row: a number, or where an array stands and how many words it has
abbrev pub passed_by : (shapes : List ℕ) → List Argument → List ℤ
passed_by shapes [] = []
passed_by shapes (NumberArgument z ∷ rest) = z ∷ passed_by shapes rest
passed_by shapes (ArrayArgument k ∷ rest) = pos k ∷ pos (slice_index_or shapes k 0) ∷ passed_by shapes rest

abbrev pub nums : (shapes : List ℕ) (k : Shape) → Result k → List ℤ
nums shapes One v = v ∷ []
nums shapes Row vs = passed_by shapes vs

abbrev pub AllNumbers : List ℤ → Type 0
AllNumbers zs = (i : ℕ) → IsNumber (slice_index_or zs i (pos 0))

-- the numbers of a result are in range, and each array that is given is one that is known
abbrev pub AllGiven : (ℕ → Type 0) → List ℕ → Type 0
AllGiven Known ks = (i : ℕ) → i < length ks → Known (slice_index_or ks i 0)

abbrev pub Numbers : (ℕ → Type 0) → (k : Shape) → Result k → Type 0
Numbers Known One v = IsNumber v
Numbers Known Row vs = AllGiven Known (arrays_given vs) × AllNumbers (numbers_given vs)

abbrev pub head_of : List Content → Content
head_of [] = None
head_of (v ∷ vs) = v

pub some_is : {A : Type 0} {x y : A} → Some x ≡ Some y → x ≡ y
some_is e = cc

pub literal_fits : (z : ℤ) → is_word z ≡ true → IsNumber z
literal_fits (pos n) e = let h : n < 2 ^ 31 = ltb-true n (2 ^ 31) e in fits_signed_from_abs w32 (pos n) (omega arith)
literal_fits (negsuc n) e = let h : n < 2 ^ 31 = ltb-true n (2 ^ 31) e in record { sfits = omega arith }

pub zero_fits : IsNumber (pos 0)
zero_fits = fits_signed_from_abs w32 (pos 0) (omega arith)

pub one_fits : IsNumber (pos 1)
one_fits = fits_signed_from_abs w32 (pos 1) (omega arith)

pub flag_fits : (v : ℤ) → IsNumber (unless_zero v (pos 1) (pos 0))
flag_fits (pos zero) = zero_fits
flag_fits (pos (suc n)) = one_fits
flag_fits (negsuc n) = one_fits

-- operators and their operations

pub unary_effect : (setting : Setting) (operator : UnaryOperator) (t : ℕ) (o : Operand) (s : State) (x : ℤ) → held s o ≡ Some x → effect setting s (unary_op operator t o) s ≡ Some (with_value s t (Some (unary_value operator x)))
unary_effect setting Minus t o s x e = computes setting Sub t (Number (pos 0)) o s (pos 0) x refl e
unary_effect setting Plus t o s x e = computes setting Mov t o (Number (pos 0)) s x (pos 0) e refl
unary_effect setting Not t o s x e = computes setting (ToGeneral Eq) t o (Number (pos 0)) s x (pos 0) e refl
unary_effect setting Complement t o s x e = computes setting Xor t o (Number (negsuc 0)) s x (negsuc 0) e refl

pub unary_fits : (operator : UnaryOperator) (x : ℤ) → IsNumber x → IsNumber (unary_value operator x)
unary_fits Minus x f = value_fits_law Sub (pos 0) x zero_fits f
unary_fits Plus x f = f
unary_fits Not x f = value_fits_law (ToGeneral Eq) x (pos 0) f zero_fits
unary_fits Complement x f = value_fits_law Xor x (negsuc 0) f (fits_signed_from_abs w32 (negsuc 0) (omega arith))

pub operation_value : (operator : BinaryOperator) (code : Code) (x y : ℤ) → operation_of operator ≡ Some code → value_of code x y ≡ binary_value operator x y
operation_value Multiply code x y e = absurd (cc)
operation_value Divide code x y e = ap (λ c. value_of c x y) (sym (some_is e))
operation_value Remainder code x y e = ap (λ c. value_of c x y) (sym (some_is e))
operation_value Adds code x y e = ap (λ c. value_of c x y) (sym (some_is e))
operation_value Subtract code x y e = ap (λ c. value_of c x y) (sym (some_is e))
operation_value ShiftLeft code x y e = ap (λ c. value_of c x y) (sym (some_is e))
operation_value ShiftRight code x y e = ap (λ c. value_of c x y) (sym (some_is e))
operation_value Less code x y e = ap (λ c. value_of c x y) (sym (some_is e))
operation_value LessEqual code x y e = ap (λ c. value_of c x y) (sym (some_is e))
operation_value Greater code x y e = ap (λ c. value_of c x y) (sym (some_is e))
operation_value GreaterEqual code x y e = ap (λ c. value_of c x y) (sym (some_is e))
operation_value Equal code x y e = ap (λ c. value_of c x y) (sym (some_is e))
operation_value NotEqual code x y e = ap (λ c. value_of c x y) (sym (some_is e))
operation_value BitAnd code x y e = ap (λ c. value_of c x y) (sym (some_is e))
operation_value BitXor code x y e = ap (λ c. value_of c x y) (sym (some_is e))
operation_value BitOr code x y e = ap (λ c. value_of c x y) (sym (some_is e))

pub comparison_value : (operator : BinaryOperator) (compare : Compare) (x y : ℤ) (σ : Store) → comparison_of operator ≡ Some compare → combined operator x y σ ≡ With (one_if (compare_of compare x y)) σ
comparison_value Multiply c x y σ e = absurd (cc)
comparison_value Divide c x y σ e = absurd (cc)
comparison_value Remainder c x y σ e = absurd (cc)
comparison_value Adds c x y σ e = absurd (cc)
comparison_value Subtract c x y σ e = absurd (cc)
comparison_value ShiftLeft c x y σ e = absurd (cc)
comparison_value ShiftRight c x y σ e = absurd (cc)
comparison_value Less c x y σ e = ap (λ c. With (one_if (compare_of c x y)) σ) (some_is e)
comparison_value LessEqual c x y σ e = ap (λ c. With (one_if (compare_of c x y)) σ) (some_is e)
comparison_value Greater c x y σ e = ap (λ c. With (one_if (compare_of c x y)) σ) (some_is e)
comparison_value GreaterEqual c x y σ e = ap (λ c. With (one_if (compare_of c x y)) σ) (some_is e)
comparison_value Equal c x y σ e = ap (λ c. With (one_if (compare_of c x y)) σ) (some_is e)
comparison_value NotEqual c x y σ e = ap (λ c. With (one_if (compare_of c x y)) σ) (some_is e)
comparison_value BitAnd c x y σ e = absurd (cc)
comparison_value BitXor c x y σ e = absurd (cc)
comparison_value BitOr c x y σ e = absurd (cc)

-- the arrays of the function: how many words each has, and where
pub record Fitting (P : Program) (h : Here) (tree : TreeProgram) (shapes : List ℕ) (words : Sees) : Type 0 where
  pub sized : Sized words (setting_at P h).spot shapes
  pub small : (k : ℕ) → slice_index_or shapes k 0 < 2 ^ 29
  pub one_word : (a : ℕ) → is_scalar (slice_get tree.globals a) ≡ true → slice_index_or shapes ((setting_at P h).spot a) 0 ≡ 1
  pub is_global : (a : ℕ) → is_scalar (slice_get tree.globals a) ≡ true → a < P.globals
  pub named : (sc : Scope) (a : ℕ) → names_array tree sc a ≡ true → InForce P.globals sc a
  pub globals_there : P.globals ≤ length words.arrays
  pub there : (a : ℕ) → a < length words.arrays → (setting_at P h).spot a < length shapes

module _ (P : Program) (h : Here) (B : List Block) (has : HasBlocks P h B) (tree : TreeProgram) (kept : ℕ → Type 0) (shapes : List ℕ) (words : Sees) (n : ℕ) where
  abbrev pub spot : ℕ → ℕ
  spot = (setting_at P h).spot

  abbrev pub Ties : Scope → Store → State → Type 0
  Ties sc σ s = Tied P.globals (setting_at P h).spot sc kept shapes words σ s

  -- an array that is there, whose words the graph has as the source does
  pub record KnownArray (sc : Scope) (k : ℕ) : Type 0 where
    pub there : k < length shapes
    pub is : kept k ⊎ ((a : ℕ) × InForce P.globals sc a × (k ≡ (setting_at P h).spot a))

  -- from p at s the graph came to q, with the results in os
  pub record Gained (sc : Scope) (p : Block) (s : State) (q : Block) (os : List Operand) (lo : ℕ) (k : Shape) (v : Result k) (σ : Store) : Type 0 where
    pub to : State
    pub comes : Comes P h p s q to
    pub tied : Ties sc σ to
    pub holds : map (held to) os ≡ map Some (nums shapes k v)
    pub keeps : Keeps lo s to
    pub number : Numbers (KnownArray sc) k v

  -- the graph came to q, with the result in t
  pub record Landed (sc : Scope) (p : Block) (s : State) (t : ℕ) (q : Block) (lo : ℕ) (v : ℤ) (σ : Store) : Type 0 where
    pub to : State
    pub comes : Comes P h p s q (with_value to t (Some v))
    pub tied : Ties sc σ to
    pub keeps : Keeps lo s to
    pub number : IsNumber v

  -- the graph went the way that the result chooses, into a block that it then begins
  pub record Chosen (sc : Scope) (p : Block) (s : State) (one two : Block) (lo : ℕ) (v : ℤ) (σ : Store) : Type 0 where
    pub to : State
    pub comes : Comes P h p s (unless_zero v one two) to
    pub passes : Passes P h p s to.out
    pub tied : Ties sc σ to
    pub keeps : Keeps lo s to

  abbrev pub Good : (sc : Scope) (p : Block) (s : State) (lo : ℕ) (k : Shape) → Way k → Result k → Store → Type 0
  Good sc p s lo k (To os q) v σ = Gained sc p s q os lo k v σ
  Good sc p s lo One (Into t q) v σ = Landed sc p s t q lo v σ
  Good sc p s lo One (Tested one two) v σ = Chosen sc p s one two lo v σ

  -- a call returned
  pub record Came_back (sc : Scope) (p : Block) (s : State) (q : Block) (result : Option ℕ) (v : ℤ) (σ : Store) : Type 0 where
    pub to : State
    pub comes : Comes P h p s q (record to { values = with_result to.values result v })
    pub tied : Ties sc σ to
    pub keeps : (u : ℕ) → to.values u ≡ s.values u
    pub number : IsNumber v

  -- the graph follows each call
  abbrev pub CallsMeet : Calls → Type 0
  CallsMeet calls = (sc : Scope) (f : ℕ) (os : List Operand) (result : Option ℕ) (next : ℕ) (q : Block) (args : List Argument) (σ : Store) (s : State) → can_call (λ gives. true) (takes_given args) (slice_get tree.functions f) ≡ true → Ties sc σ s → known (map (held s) os) ≡ Some (passed_by shapes args) → Numbers (KnownArray sc) Row args → slice_get B next ≡ Some q →
      Gives P h n (ends (Call f os result next)) s (Came_back sc (ends (Call f os result next)) s q result) (calls f args σ)

  -- where the source chooses by a number, and the graph came the same way
  pub choose : {A : Type 0} (v : ℤ) (one two : Part A) (p y z : Block) (s u : State) (Better : A → Store → Type 0) → Comes P h p s (unless_zero v y z) u → (Comes P h p s y u → Gives P h n p s Better one) → (Comes P h p s z u → Gives P h n p s Better two) → Gives P h n p s Better (unless_zero v one two)
  choose (pos zero) one two p y z s u Better c f g = g c
  choose (pos (suc m)) one two p y z s u Better c f g = f c
  choose (negsuc m) one two p y z s u Better c f g = f c

  -- the last operation of an expression
  pub land : (sc : Scope) (op : Op) (lo t : ℕ) (v : ℤ) (σ : Store) (p m q : Block) (s u w : State) → Comes P h p s m u → Goes B (then_op op q) m → effect (setting_at P h) u op u ≡ Some (with_value w t (Some v)) → Ties sc σ w → Keeps lo s w → IsNumber v → Landed sc p s t q lo v σ
  land sc op lo t v σ p m q s u w c g e tied k f = record {
    to = w;
    comes = comes_on P h c (comes_past P h B has op m q u (with_value w t (Some v)) g e);
    tied = tied;
    keeps = k;
    number = f;
  }

  pub moved : {sc : Scope} {p q r : Block} {s : State} {t lo : ℕ} {v : ℤ} {σ : Store} → Landed sc p s t q lo v σ → Goes B r q → Landed sc p s t r lo v σ
  moved {q = q} {r = r} {t = t} {v = v} x g = record { to = x.to; comes = comes_on P h x.comes (comes_goes P h B has r q (with_value x.to t (Some v)) g); tied = x.tied; keeps = x.keeps; number = x.number }

  -- what landed in a value is where it is wanted
  pub settle : (sc : Scope) (p : Block) (s : State) (t : ℕ) (q : Block) (lo : ℕ) (w : Way One) → Above words sc lo → Lands lo w t q → (v : ℤ) (σ : Store) → Landed sc p s t q lo v σ → Good sc p s lo One w v σ
  settle sc p s t q lo w above (fresh le) v σ x = record {
    to = with_value x.to t (Some v);
    comes = x.comes;
    tied = tied_value P.globals (setting_at P h).spot kept shapes words sc lo t σ x.to (Some v) above le x.tied;
    holds = ap (λ o. o ∷ []) (value_there t x.to (Some v));
    keeps = λ u l. keeps_value lo t x.to (Some v) le u l ∙ x.keeps u l;
    number = x.number;
  }
  settle sc p s t q lo w above into v σ x = x

  -- a number is tested against 0
  pub tests_zero : (sc : Scope) (lo c : ℕ) (o : Operand) (v : ℤ) (σ : Store) (p m one two : Block) (s u : State) → Above words sc lo → lo ≤ c → Tests B (Compute (ToBranch Ne) c o (Number (pos 0))) c m one two → held u o ≡ Some v → Comes P h p s m u → Ties sc σ u → Keeps lo s u → Chosen sc p s one two lo v σ
  tests_zero sc lo c o v σ p m one two s u above le tests e came tied keeps =
      let to : State = with_value u c (Some (one_if (compare_of Ne v (pos 0)))) in
      let x = comes_tests P h B has (Compute (ToBranch Ne) c o (Number (pos 0))) c m one two u to (compare_of Ne v (pos 0)) tests (computes (setting_at P h) (ToBranch Ne) c o (Number (pos 0)) u v (pos 0) e refl) (value_there c u (Some (one_if (compare_of Ne v (pos 0))))) in
      record {
        to = to;
        comes = subst (λ b. Comes P h p s b to) (differs_chooses v one two) (comes_on P h came x.comes);
        passes = passes_on P h came x.passes;
        tied = tied_value P.globals (setting_at P h).spot kept shapes words sc lo c σ u (Some (one_if (compare_of Ne v (pos 0)))) above le tied;
        keeps = λ z l. keeps_value lo c u (Some (one_if (compare_of Ne v (pos 0)))) le z l ∙ keeps z l;
      }

  -- two numbers are compared
  pub tests_two : (sc : Scope) (compare : Compare) (lo c : ℕ) (oa ob : Operand) (x y : ℤ) (σ : Store) (p m one two : Block) (s u : State) → Above words sc lo → lo ≤ c → Tests B (Compute (ToBranch compare) c oa ob) c m one two → held u oa ≡ Some x → held u ob ≡ Some y → Comes P h p s m u → Ties sc σ u → Keeps lo s u → Chosen sc p s one two lo (one_if (compare_of compare x y)) σ
  tests_two sc compare lo c oa ob x y σ p m one two s u above le tests e f came tied keeps =
      let to : State = with_value u c (Some (one_if (compare_of compare x y))) in
      let z = comes_tests P h B has (Compute (ToBranch compare) c oa ob) c m one two u to (compare_of compare x y) tests (computes (setting_at P h) (ToBranch compare) c oa ob u x y e f) (value_there c u (Some (one_if (compare_of compare x y)))) in
      record {
        to = to;
        comes = subst (λ b. Comes P h p s b to) (sym (flag_chooses (compare_of compare x y) one two)) (comes_on P h came z.comes);
        passes = passes_on P h came z.passes;
        tied = tied_value P.globals (setting_at P h).spot kept shapes words sc lo c σ u (Some (one_if (compare_of compare x y))) above le tied;
        keeps = λ z l. keeps_value lo c u (Some (one_if (compare_of compare x y))) le z l ∙ keeps z l;
      }

  -- an operator is done to two numbers
  pub combines : (sc : Scope) (lo at : ℕ) {operator : BinaryOperator} {a b : Operand} {m q : Block} {t : ℕ} → Combines B at operator a b m t q → lo ≤ at → Above words sc lo → IsBelow at a → IsBelow at b → (x y : ℤ) (σ : Store) (p : Block) (s u : State) → Comes P h p s m u → held u a ≡ Some x → held u b ≡ Some y → IsNumber x → IsNumber y → Ties sc σ u → Keeps lo s u → Gives P h n p s (Landed sc p s t q lo) (combined operator x y σ)
  combines sc lo at {operator} {a} {b} {m} {q} {t} (single code is whole g) le above ba bb x y σ p s u came ea eb fx fy tied keeps =
      subst (λ d. Gives P h n p s (Landed sc p s t q lo) (cond d (unless_zero y (With (binary_value operator x y) σ) (Trapped ByDivide σ.out)) (With (binary_value operator x y) σ))) (sym whole)
      (subst (λ v. Landed sc p s t q lo v σ) (operation_value operator code x y is) (land sc (Compute code t a b) lo t (value_of code x y) σ p m q s u u came g (computes (setting_at P h) code t a b u x y ea eb) tied keeps (value_fits_law code x y fx fy)))
  combines sc lo at {operator} {a} {b} {m} {q} {t} (product {n = r1} {r = r2} {u = i} {v = j} li lj g1 g2 g3) le above ba bb x y σ p s u came ea eb fx fy tied keeps =
      let u1 : State = with_value u i (Some (mpylu_of x y)) in
      let u2 : State = with_value u1 j (Some (mpyhs_of x y)) in
      let k1 = keeps_value at i u (Some (mpylu_of x y)) li in
      let c1 = comes_on P h came (comes_past P h B has (Compute Mpylu i a b) m r1 u u1 g1 (computes (setting_at P h) Mpylu i a b u x y ea eb)) in
      let c2 = comes_on P h c1 (comes_past P h B has (Compute Mpyhs j a b) r1 r2 u1 u2 g2 (computes (setting_at P h) Mpyhs j a b u1 x y (held_kept at u u1 a k1 ba ∙ ea) (held_kept at u u1 b k1 bb ∙ eb))) in
      let i2 : u2.values i ≡ Some (mpylu_of x y) = keeps_value j j u1 (Some (mpyhs_of x y)) (omega arith) i lj ∙ value_there i u (Some (mpylu_of x y)) in
      let lo_i : lo ≤ i = omega arith in
      let lo_j : lo ≤ j = omega arith in
      let t1 = tied_value P.globals (setting_at P h).spot kept shapes words sc lo i σ u (Some (mpylu_of x y)) above lo_i tied in
      let t2 = tied_value P.globals (setting_at P h).spot kept shapes words sc lo j σ u1 (Some (mpyhs_of x y)) above lo_j t1 in
      let all = product_by_halves_law x y fx fy in
      subst (λ v. Landed sc p s t q lo v σ) all (land sc (Compute Add t (Held i) (Held j)) lo t (sum_of (mpylu_of x y) (mpyhs_of x y)) σ p r2 q s u2 u2 c2 g3 (computes (setting_at P h) Add t (Held i) (Held j) u2 (mpylu_of x y) (mpyhs_of x y) i2 (value_there j u1 (Some (mpyhs_of x y)))) t2 (λ z l. keeps_value lo j u1 (Some (mpyhs_of x y)) lo_j z l ∙ keeps_value lo i u (Some (mpylu_of x y)) lo_i z l ∙ keeps z l) (value_fits_law Add (mpylu_of x y) (mpyhs_of x y) (value_fits_law Mpylu x y fx fy) (value_fits_law Mpyhs x y fx fy)))
  combines sc lo at {operator} {a} {b} {m} {q} {t} (quotient {y = yb} {no = nb} {c = c} code is whole lc tests stop g) le above ba bb x y σ p s u came ea eb fx fy tied keeps =
      let lo_c : lo ≤ c = omega arith in
      let k1 = keeps_value at c u (Some (one_if (compare_of Ne y (pos 0)))) lc in
      let z = tests_zero sc lo c b y σ p m yb nb s u above lo_c tests eb came tied keeps in
      subst (λ d. Gives P h n p s (Landed sc p s t q lo) (cond d (unless_zero y (With (binary_value operator x y) σ) (Trapped ByDivide σ.out)) (With (binary_value operator x y) σ))) (sym whole)
      (choose y (With (binary_value operator x y) σ) (Trapped ByDivide σ.out) p yb nb s (with_value u c (Some (one_if (compare_of Ne y (pos 0))))) (Landed sc p s t q lo) (came_there c yb nb lo_c tests)
      (λ c1. subst (λ v. Landed sc p s t q lo v σ) (operation_value operator code x y is) (land sc (Compute code t a b) lo t (value_of code x y) σ p yb q s (with_value u c (Some (one_if (compare_of Ne y (pos 0))))) (with_value u c (Some (one_if (compare_of Ne y (pos 0))))) c1 g (computes (setting_at P h) code t a b (with_value u c (Some (one_if (compare_of Ne y (pos 0))))) x y (held_kept at u (with_value u c (Some (one_if (compare_of Ne y (pos 0))))) a k1 ba ∙ ea) (held_kept at u (with_value u c (Some (one_if (compare_of Ne y (pos 0))))) b k1 bb ∙ eb)) (tied_value P.globals (setting_at P h).spot kept shapes words sc lo c σ u (Some (one_if (compare_of Ne y (pos 0)))) above lo_c tied) (λ v l. keeps_value lo c u (Some (one_if (compare_of Ne y (pos 0)))) lo_c v l ∙ keeps v l) (value_fits_law code x y fx fy)))
      (λ c1. stops P h B has n ByDivide p nb s (with_value u c (Some (one_if (compare_of Ne y (pos 0))))) (Landed sc p s t q lo) σ.out c1 stop tied.out))
    where
      came_there : (c : ℕ) (yb nb : Block) → lo ≤ c → Tests B (Compute (ToBranch Ne) c b (Number (pos 0))) c m yb nb → Comes P h p s (unless_zero y yb nb) (with_value u c (Some (one_if (compare_of Ne y (pos 0)))))
      came_there c yb nb lo_c tests = subst (λ b. Comes P h p s b (with_value u c (Some (one_if (compare_of Ne y (pos 0)))))) (differs_chooses y yb nb) (comes_on P h came (comes_tests P h B has (Compute (ToBranch Ne) c b (Number (pos 0))) c m yb nb u (with_value u c (Some (one_if (compare_of Ne y (pos 0))))) (compare_of Ne y (pos 0)) tests (computes (setting_at P h) (ToBranch Ne) c b (Number (pos 0)) u y (pos 0) eb refl) (value_there c u (Some (one_if (compare_of Ne y (pos 0)))))).comes)

  -- an index is tested
  module _ (fitting : Fitting P h tree shapes words) where
    pub checks : {A : Type 0} (sc : Scope) (lo a t : ℕ) (o : Operand) (v : ℤ) (σ : Store) (p m y : Block) (s u : State) (Better : A → Store → Type 0) (f : ℕ → Part A) → Above words sc lo → (x : Checks B words a lo t o m y) → held u o ≡ Some v → IsNumber v → Ties sc σ u → Comes P h p s m u →
        ((j : ℕ) → j < slice_index_or shapes ((setting_at P h).spot a) 0 → (w : State) → Comes P h p s y w → Ties sc σ w → Keeps lo u w → w.values t ≡ Some (product_of (pos 4) (pos j)) → Gives P h n p s Better (f j)) → Gives P h n p s Better (at_index (index_in (length (array_at σ ((setting_at P h).spot a))) v) σ f)
    checks sc lo a t o v σ p m y s u Better f above x e number tied came go =
        let l = source_length P.globals (setting_at P h).spot kept shapes words sc σ u ((setting_at P h).spot a) tied in
        subst (λ r. Gives P h n p s Better (at_index (index_in r v) σ f)) (sym l) (cases v reached refl)
      where
        size : ℕ
        size = slice_index_or shapes ((setting_at P h).spot a) 0

        s1 : State
        s1 = with_value u t (Some (product_of (pos 4) v))

        s2 : State
        s2 = with_value (with_value u t (Some (product_of (pos 4) v))) x.c (Some (one_if (compare_of Ltu v (pos (slice_index_or shapes ((setting_at P h).spot a) 0)))))

        placed : Comes P h p s x.place (with_value u t (Some (product_of (pos 4) v)))
        placed = comes_on P h came (comes_past P h B has (place_op words t a o) m x.place u (with_value u t (Some (product_of (pos 4) v))) x.goes (places (setting_at P h) words shapes t a o v u tied.handed e))

        reached : Comes P h p s (cond (is_index (slice_index_or shapes ((setting_at P h).spot a) 0) v) y x.no) s2
        reached =
            let below : slice_index_or shapes ((setting_at P h).spot a) 0 < 2 ^ 31 = let small = fitting.small ((setting_at P h).spot a) in omega arith in
            subst (λ b. Comes P h p s (cond b y x.no) s2) (index_test v (slice_index_or shapes ((setting_at P h).spot a) 0) number below)
            (comes_on P h placed (comes_tests P h B has (Compute (ToBranch Ltu) x.c o (size_at words a)) x.c x.place y x.no (with_value u t (Some (product_of (pos 4) v))) s2 (compare_of Ltu v (pos (slice_index_or shapes ((setting_at P h).spot a) 0))) x.tests (computes (setting_at P h) (ToBranch Ltu) x.c o (size_at words a) (with_value u t (Some (product_of (pos 4) v))) v (pos (slice_index_or shapes ((setting_at P h).spot a) 0)) (held_kept t u (with_value u t (Some (product_of (pos 4) v))) o (keeps_value t t u (Some (product_of (pos 4) v)) (omega arith)) x.free ∙ e) (held_kept t u (with_value u t (Some (product_of (pos 4) v))) (size_at words a) (keeps_value t t u (Some (product_of (pos 4) v)) (omega arith)) (below_on lo t (size_at words a) x.fresh (size_below words sc lo a above)) ∙ held_size words (setting_at P h).spot shapes u a fitting.sized tied.handed)) (value_there x.c (with_value u t (Some (product_of (pos 4) v))) (Some (one_if (compare_of Ltu v (pos (slice_index_or shapes ((setting_at P h).spot a) 0))))))).comes)

        cases : (w : ℤ) → Comes P h p s (cond (is_index (slice_index_or shapes ((setting_at P h).spot a) 0) w) y x.no) s2 → v ≡ w → Gives P h n p s Better (at_index (index_in (slice_index_or shapes ((setting_at P h).spot a) 0) w) σ f)
        cases (negsuc i) c d = stops P h B has n ByIndex p x.no s s2 Better σ.out c x.stops tied.out
        cases (pos i) c d = within (nat_lt i (slice_index_or shapes ((setting_at P h).spot a) 0)) refl c
          where
            within : (b : Bool) → nat_lt i (slice_index_or shapes ((setting_at P h).spot a) 0) ≡ b → Comes P h p s (cond b y x.no) s2 → Gives P h n p s Better (at_index (cond b (Some i) None) σ f)
            within false is c = stops P h B has n ByIndex p x.no s s2 Better σ.out c x.stops tied.out
            within true is c =
                let le : lo ≤ t = x.fresh in
                let up : t < x.c = x.above in
                let lc : lo ≤ x.c = omega arith in
                let t1 = tied_value P.globals (setting_at P h).spot kept shapes words sc lo t σ u (Some (product_of (pos 4) v)) above le tied in
                let t2 = tied_value P.globals (setting_at P h).spot kept shapes words sc lo x.c σ (with_value u t (Some (product_of (pos 4) v))) (Some (one_if (compare_of Ltu v (pos (slice_index_or shapes ((setting_at P h).spot a) 0))))) above lc t1 in
                go i (ltb-true i (slice_index_or shapes ((setting_at P h).spot a) 0) is) s2 c t2 (λ z l. keeps_value lo x.c (with_value u t (Some (product_of (pos 4) v))) (Some (one_if (compare_of Ltu v (pos (slice_index_or shapes ((setting_at P h).spot a) 0))))) lc z l ∙ keeps_value lo t u (Some (product_of (pos 4) v)) le z l) (keeps_value x.c x.c (with_value u t (Some (product_of (pos 4) v))) (Some (one_if (compare_of Ltu v (pos (slice_index_or shapes ((setting_at P h).spot a) 0))))) (omega arith) t up ∙ value_there t u (Some (product_of (pos 4) v)) ∙ ap (λ z. Some (product_of (pos 4) z)) d)
