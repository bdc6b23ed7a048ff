-- The graph follows an expression.
use Rattle.std.proofs.Common.{◌≡◌, ℕ, zero, suc, ◌<◌, ◌≤◌, ◌^◌, ℤ, pos, negsuc, Bool, true, false, cond, not, ◌&&◌, List, [], ◌∷◌, length, map, slice_index_or, Option, Some, None, refl, sym, ap, ◌∙◌, subst, inl, inr, arith}
use Rattle.std.specs.Prelude.{slice_get}
use Rattle.vx_base.specs.Arithmetic.{IsNumber, one_if, compare_of, product_of}
use Rattle.vx_base.specs.declared.arithmetic.Code.TheVariants.{Mov, ToGeneral}
use Rattle.vx_base.specs.declared.arithmetic.Compare.TheVariants.{Eq, Ne}
use Rattle.vx_base.specs.declared.outcome.Trap.TheVariants.{Input as ByInput}
use Rattle.vx_ast.specs.declared.tree.Gives.{Gives as GivesBack}
use Rattle.vx_ast.specs.declared.tree.Takes.{Takes}
use Rattle.vx_ast.specs.declared.tree.Takes.TheVariants.{Number as TakesNumber, Array as TakesArray}
use Rattle.vx_ast.specs.Tree.{Shape, One, Row, Tree, NoMore, Then, Hand, Function, Program as TreeProgram}
use Rattle.vx_ast.specs.Meaning.{Store, Part, With, and_then, Calls, NumberArgument, ArrayArgument, numbers_given, arrays_given, Result, value, unless_zero, unary_value, combined, next_input, is_left, word_at}
use Rattle.vx_ast.specs.Accepted.{Scope, suits, takes_of_row, same_takes, can_call, gives_int, names_array}
use Rattle.vx_flow.specs.declared.graph.Operand.{Operand}
use Rattle.vx_flow.specs.declared.graph.Operand.TheVariants.{Held, Number, Stack}
use Rattle.vx_flow.specs.declared.graph.Op.TheVariants.{Compute, Load, More, Input, Base}
use Rattle.vx_flow.specs.declared.graph.Exit.TheVariants.{Call}
use Rattle.vx_flow.specs.declared.graph.Block.{Block}
use Rattle.vx_flow.specs.Effects.{State, held, with_value, IsIn, is_left as has_left, next_input as takes}
use Rattle.vx_flow.specs.Meaning.{Program, known}
use Rattle.vx_lower.specs.declared.seen.Seen.{Seen}
use Rattle.vx_lower.specs.Seen.{Sees, seen_at, size_at}
use Rattle.vx_lower.specs.Holds.{Goes, Way, To, Tested, Lands, Holds, literal, local, global, element, plus, unary, binary, both, either, choice, apply, read_int, more_input, copied, tested, compared, turned, both_tested, either_tested, no_more, then, hand, Bases, of_global, of_own, given, unary_op, then_op, ends}
use Rattle.vx_lower.proofs.Base.{and_one, and_two, differs_is, differs_chooses, flag_chooses, four_times}
use Rattle.vx_lower.proofs.Steps.{Here, setting_at, HasBlocks, Comes, comes_self, comes_on, passes_on, comes_goes, comes_past, AllWith, all_then, all_with, Gives, bind, bind_with, shift, stops}
use Rattle.vx_lower.proofs.Ties.{InRange, InForce, Above, above_on, Tied, Keeps, held_kept, below_on, keeps_value, value_there, computes, known_all, tied_value, row_length as words_of_row, loads, held_size}
use Rattle.vx_lower.proofs.Values.{takes_given, passed_by, AllNumbers, AllGiven, KnownArray, head_of, literal_fits, zero_fits, one_fits, flag_fits, unary_effect, unary_fits, comparison_value, Fitting, Landed, Chosen, Good, Came_back, CallsMeet, choose, land, moved, settle, tests_zero, tests_two, combines, checks}

-- the arguments of a row are of its kinds
pub row_takes : (spot : ℕ → ℕ) (calls : Calls) (row : Tree Row) (σ : Store) → AllWith (λ xs u. takes_given xs ≡ takes_of_row row) (value spot calls row σ)
row_takes spot calls NoMore σ = refl
row_takes spot calls (Then a rest) σ =
    all_then (λ x t. Unit {0}) (λ xs u. takes_given xs ≡ takes_of_row (Then a rest)) (value spot calls a σ) (λ x t. and_then (value spot calls rest t) (λ xs u. With (NumberArgument x ∷ xs) u)) (all_with (value spot calls a σ)) (λ x t nothing.
    all_then (λ xs u. takes_given xs ≡ takes_of_row rest) (λ xs u. takes_given xs ≡ takes_of_row (Then a rest)) (value spot calls rest t) (λ xs u. With (NumberArgument x ∷ xs) u) (row_takes spot calls rest t) (λ xs u e. ap (λ z. TakesNumber ∷ z) e))
row_takes spot calls (Hand a rest) σ =
    all_then (λ xs u. takes_given xs ≡ takes_of_row rest) (λ xs u. takes_given xs ≡ takes_of_row (Hand a rest)) (value spot calls rest σ) (λ xs u. With (ArrayArgument (spot a) ∷ xs) u) (row_takes spot calls rest σ) (λ xs u e. ap (λ z. TakesArray ∷ z) e)

pub can_call_at_all : (wanted : GivesBack → Bool) (m : List Takes) (o : Option Function) → can_call wanted m o ≡ true → can_call (λ gives. true) m o ≡ true
can_call_at_all wanted m None e = e
can_call_at_all wanted m (Some f) e = and_two (wanted f.gives) (same_takes m f.takes) e

-- a flag of a flag
flagged : {A : Type 0} (v : ℤ) (x y : A) → unless_zero v x y ≡ unless_zero (unless_zero v (pos 1) (pos 0)) x y
flagged (pos zero) x y = refl
flagged (pos (suc n)) x y = refl
flagged (negsuc n) x y = refl

not_cond : {A : Type 0} (b : Bool) (x y : A) → cond (not b) y x ≡ cond b x y
not_cond true x y = refl
not_cond false x y = refl

not_chooses : {A : Type 0} (v : ℤ) (x y : A) → unless_zero v y x ≡ unless_zero (one_if (compare_of Eq v (pos 0))) x y
not_chooses v x y = sym (differs_chooses v y x) ∙ not_cond (compare_of Eq v (pos 0)) x y ∙ sym (flag_chooses (compare_of Eq v (pos 0)) x y)

-- what is left of an input keeps its range
range_rest : (x : ℤ) (xs : List ℤ) (σ : Store) → σ.input ≡ x ∷ xs → InRange σ → InRange (record σ { input = xs })
range_rest x xs σ e r = record { scalars = r.scalars; words = r.words; input = λ n i. r.input n (subst (λ l. IsIn n l) (sym e) (inr i)) }

-- numbers of values

up_to : (a b c : ℕ) → a ≤ b → b ≤ c → a ≤ c
up_to a b c p q = omega arith

sooner : (v lo mid : ℕ) → v < lo → lo ≤ mid → v < mid
sooner v lo mid b le = omega arith

none_few : 0 < 2 ^ 29
none_few = omega arith

one_few : 1 < 2 ^ 29
one_few = omega arith

none_in_one : 0 < 1
none_in_one = omega arith

module _ (P : Program) (h : Here) (B : List Block) (has : HasBlocks P h B) (tree : TreeProgram) (kept : ℕ → Type 0) (shapes : List ℕ) (words : Sees) (n : ℕ) (calls : Calls) (meets : CallsMeet P h B has tree kept shapes words n calls) (fitting : Fitting P h tree shapes words) where
  abbrev Wanted : Scope → Block → State → ℕ → (k : Shape) → Way k → Result k → Store → Type 0
  Wanted sc p s lo k w v σ = Good P h B has tree kept shapes words n sc p s lo k w v σ

  abbrev InValue : Scope → Block → State → ℕ → Block → ℕ → ℤ → Store → Type 0
  InValue sc p s t q lo v σ = Landed P h B has tree kept shapes words n sc p s t q lo v σ

  abbrev Tie : Scope → Store → State → Type 0
  Tie sc σ s = Tied P.globals (setting_at P h).spot sc kept shapes words σ s

  settled : (sc : Scope) (p : Block) (s : State) (t : ℕ) (q : Block) (lo : ℕ) (w : Way One) → Above words sc lo → Lands lo w t q → (o : Part ℤ) → Gives P h n p s (InValue sc p s t q lo) o → Gives P h n p s (Wanted sc p s lo One w) o
  settled sc p s t q lo w above l o g = shift P h n p p s s (InValue sc p s t q lo) (Wanted sc p s lo One w) (comes_self P h p s) o g (λ v σ x. settle P h B has tree kept shapes words n sc p s t q lo w above l v σ x)

  either_goes : (v : ℤ) (one two yb nb : Block) → Goes B one yb → Goes B two nb → Goes B (unless_zero v one two) (unless_zero v yb nb)
  either_goes (pos zero) one two yb nb g k = k
  either_goes (pos (suc m)) one two yb nb g k = g
  either_goes (negsuc m) one two yb nb g k = g

  -- a test that was reached, and led on
  onward : (sc : Scope) (p m : Block) (s u : State) (yb nb one two : Block) (lo mid : ℕ) (v w : ℤ) (σ : Store) → Comes P h p s m u → Keeps lo s u → lo ≤ mid → Goes B one yb → Goes B two nb → ((x y : Block) → unless_zero v x y ≡ unless_zero w x y) → Chosen P h B has tree kept shapes words n sc m u yb nb mid v σ → Chosen P h B has tree kept shapes words n sc p s one two lo w σ
  onward sc p m s u yb nb one two lo mid v w σ c k le gy gn alike x = record {
    to = x.to;
    comes = subst (λ b. Comes P h p s b x.to) (alike one two) (comes_on P h c (comes_on P h x.comes (comes_goes P h B has (unless_zero v one two) (unless_zero v yb nb) x.to (either_goes v one two yb nb gy gn))));
    passes = passes_on P h c x.passes;
    tied = x.tied;
    keeps = λ z l. x.keeps z (sooner z lo mid l le) ∙ k z l;
  }

  -- a number that landed behind a state that was reached
  farther : (sc : Scope) (p m : Block) (s u : State) (t : ℕ) (q : Block) (lo mid : ℕ) (v : ℤ) (σ : Store) → Comes P h p s m u → Keeps lo s u → lo ≤ mid → InValue sc m u t q mid v σ → InValue sc p s t q lo v σ
  farther sc p m s u t q lo mid v σ c k le x = record { to = x.to; comes = comes_on P h c x.comes; tied = x.tied; keeps = λ z l. x.keeps z (sooner z lo mid l le) ∙ k z l; number = x.number }

  -- where an array stands is in v
  record Based (sc : Scope) (a lo mid v : ℕ) (p m : Block) (σ : Store) (s : State) : Type 0 where
    pub to : State
    pub comes : Comes P h p s m to
    pub tied : Tied P.globals (setting_at P h).spot sc kept shapes words σ to
    pub keeps : Keeps lo s to
    pub stands : to.values v ≡ Some (pos ((setting_at P h).spot a))
    pub below : v < mid

  based_made : (sc : Scope) (a lo mid v : ℕ) (p m : Block) (σ : Store) (s : State) (from : Operand) → Above words sc lo → lo ≤ v → v < mid → Goes B (then_op (Base v a from) m) p → Tie sc σ s → Based sc a lo mid v p m σ s
  based_made sc a lo mid v p m σ s from above le lt g tied =
      let stand = (setting_at P h).spot a in
      record {
        to = with_value s v (Some (pos stand));
        comes = comes_past P h B has (Base v a from) p m s (with_value s v (Some (pos stand))) g refl;
        tied = tied_value P.globals (setting_at P h).spot kept shapes words sc lo v σ s (Some (pos stand)) above le tied;
        keeps = keeps_value lo v s (Some (pos stand)) le;
        stands = value_there v s (Some (pos stand));
        below = lt;
      }

  based_at : (sc : Scope) (a lo mid v : ℕ) (p m : Block) (σ : Store) (s : State) → Above words sc lo → Tie sc σ s → (x : Seen) → seen_at words a ≡ x → Bases B a lo mid x v p m → Based sc a lo mid v p m σ s
  based_at sc a lo mid v p m σ s above tied x e (of_global le lt g) = based_made sc a lo mid v p m σ s (Number (pos 0)) above le lt g tied
  based_at sc a lo mid v p m σ s above tied x e (of_own le lt g) = based_made sc a lo mid v p m σ s Stack above le lt g tied
  based_at sc a lo mid v p m σ s above tied x e (given {size = c} lt) = record { to = s; comes = comes_self P h p s; tied = tied; keeps = λ u l. refl; stands = (tied.handed a v c e).0; below = let k = (above.handed a v c e).1 in omega arith }

  -- an array in force is known
  known_array : (sc : Scope) (a lo : ℕ) → Above words sc lo → names_array tree sc a ≡ true → KnownArray P h B has tree kept shapes words n sc ((setting_at P h).spot a)
  known_array sc a lo above named = record { there = fitting.there a (inside (fitting.named sc a named)); is = inr (a, fitting.named sc a named, refl) }
    where
      inside : InForce P.globals sc a → a < length words.arrays
      inside (inl l) = let g = fitting.globals_there in omega arith
      inside (inr i) = above.there a i

  pub expr_runs : (sc : Scope) {k : Shape} {e : Tree k} {p : Block} {w : Way k} {lo : ℕ} → Holds B words k e p w lo → suits tree sc e ≡ true → Above words sc lo → (σ : Store) (s : State) → Tie sc σ s → Gives P h n p s (Wanted sc p s lo k w) (value (setting_at P h).spot calls e σ)
  expr_runs sc (literal {z = z} {p = p}) fit above σ s tied = record { to = s; comes = comes_self P h p s; tied = tied; holds = refl; keeps = λ u l. refl; number = literal_fits z fit }
  expr_runs sc (local {x = x} {p = p}) fit above σ s tied = record { to = s; comes = comes_self P h p s; tied = tied; holds = ap (λ o. o ∷ []) (tied.scalars x fit); keeps = λ u l. refl; number = tied.ranges.scalars x }
  expr_runs sc (global {a = a} {u = u} {lo = lo} {p = p} {q = q} {w = w} g l) fit above σ s tied =
      let size = fitting.one_word a fit in
      let z : (pos 0) ≡ product_of (pos 4) (pos 0) = sym (four_times 0 none_few) in
      settle P h B has tree kept shapes words n sc p s u q lo w above l (word_at σ ((setting_at P h).spot a) 0) σ
      (land P h B has tree kept shapes words n sc (Load u a (Number (pos 0)) false) lo u (word_at σ ((setting_at P h).spot a) 0) σ p p q s s s (comes_self P h p s) g (loads (setting_at P h) u a 0 1 (Number (pos 0)) σ s one_few none_in_one (words_of_row P.globals (setting_at P h).spot kept shapes words sc σ s ((setting_at P h).spot a) tied ∙ size) (tied.own a (inl (fitting.is_global a fit))) (ap Some z)) tied (λ v b. refl) (tied.ranges.words ((setting_at P h).spot a) 0))
  expr_runs sc (element {a = a} {t = t} {u = u} {lo = lo} {i = i} {o = o} {p = p} {m = m} {y = y} {q = q} {w = w} hi x g l) fit above σ s tied =
      bind P h n p p s s (Wanted sc p s lo One (To (o ∷ []) m)) (Wanted sc p s lo One w) _ (comes_self P h p s) (value (setting_at P h).spot calls i σ) (expr_runs sc hi (and_two (names_array tree sc a) (suits tree sc i) fit) above σ s tied) (λ v σ1 g1.
      checks P h B has tree kept shapes words n fitting sc lo a t o v σ1 p m y s g1.to (Wanted sc p s lo One w) (λ j. With (word_at σ1 ((setting_at P h).spot a) j) σ1) above x (ap head_of g1.holds) g1.number g1.tied g1.comes (λ j below z c tz kz at.
      settle P h B has tree kept shapes words n sc p s u q lo w above l (word_at σ1 ((setting_at P h).spot a) j) σ1
      (land P h B has tree kept shapes words n sc (Load u a (Held t) false) lo u (word_at σ1 ((setting_at P h).spot a) j) σ1 p y q s z z c g (loads (setting_at P h) u a j (slice_index_or shapes ((setting_at P h).spot a) 0) (Held t) σ1 z (fitting.small ((setting_at P h).spot a)) below (words_of_row P.globals (setting_at P h).spot kept shapes words sc σ1 z ((setting_at P h).spot a) tz) (tz.own a (fitting.named sc a (and_one (names_array tree sc a) (suits tree sc i) fit))) at) tz (λ v b. kz v b ∙ g1.keeps v b) (tz.ranges.words ((setting_at P h).spot a) j))))
  expr_runs sc (plus {a = a} {p = p} {w = w} {lo = lo} x) fit above σ s tied =
      bind P h n p p s s (Wanted sc p s lo One w) (Wanted sc p s lo One w) _ (comes_self P h p s) (value (setting_at P h).spot calls a σ) (expr_runs sc x fit above σ s tied) (λ v σ1 g1. g1)
  expr_runs sc (unary {operator = operator} {a = a} {o = o} {p = p} {m = m} {q = q} {w = w} {t = t} {lo = lo} x g l) fit above σ s tied =
      bind P h n p p s s (Wanted sc p s lo One (To (o ∷ []) m)) (Wanted sc p s lo One w) _ (comes_self P h p s) (value (setting_at P h).spot calls a σ) (expr_runs sc x fit above σ s tied) (λ v σ1 g1.
      settle P h B has tree kept shapes words n sc p s t q lo w above l (unary_value operator v) σ1 (land P h B has tree kept shapes words n sc (unary_op operator t o) lo t (unary_value operator v) σ1 p m q s g1.to g1.to g1.comes g (unary_effect (setting_at P h) operator t o g1.to v (ap head_of g1.holds)) g1.tied g1.keeps (unary_fits operator v g1.number)))
  expr_runs sc (binary {operator = operator} {a = a} {b = b} {oa = oa} {ob = ob} {p = p} {m = m} {n = z} {q = q} {w = w} {t = t} {lo = lo} {mid = mid} {at = at} ha le ba hb le2 bb g l) fit above σ s tied =
      bind P h n p p s s (Wanted sc p s lo One (To (oa ∷ []) m)) (Wanted sc p s lo One w) _ (comes_self P h p s) (value (setting_at P h).spot calls a σ) (expr_runs sc ha (and_one (suits tree sc a) (suits tree sc b) fit) above σ s tied) (λ x σ1 g1.
      bind P h n p m s g1.to (Wanted sc m g1.to mid One (To (ob ∷ []) z)) (Wanted sc p s lo One w) _ g1.comes (value (setting_at P h).spot calls b σ1) (expr_runs sc hb (and_two (suits tree sc a) (suits tree sc b) fit) (above_on words sc lo mid le above) σ1 g1.to g1.tied) (λ y σ2 g2.
      let far = up_to lo mid at le le2 in
      settled sc p s t q lo w above l (combined operator x y σ2)
      (combines P h B has tree kept shapes words n sc lo at g far above (below_on mid at oa le2 ba) bb x y σ2 p s g2.to (comes_on P h g1.comes g2.comes) (held_kept mid g1.to g2.to oa g2.keeps ba ∙ ap head_of g1.holds) (ap head_of g2.holds) g1.number g2.number g2.tied (λ v b. g2.keeps v (sooner v lo mid b le) ∙ g1.keeps v b))))
  expr_runs sc (both {a = a} {b = b} {ob = ob} {p = p} {y = y} {no = nb} {z = z} {end = end} {last = last} {q = q} {w = w} {t = t} {lo = lo} {mid = mid} ha le hb ge gq gn gl l) fit above σ s tied =
      bind P h n p p s s (Wanted sc p s lo One (Tested y nb)) (Wanted sc p s lo One w) _ (comes_self P h p s) (value (setting_at P h).spot calls a σ) (expr_runs sc ha (and_one (suits tree sc a) (suits tree sc b) fit) above σ s tied) (λ x σ1 g1.
      choose P h B has tree kept shapes words n x (and_then (value (setting_at P h).spot calls b σ1) (λ v σ2. With (unless_zero v (pos 1) (pos 0)) σ2)) (With (pos 0) σ1) p y nb s g1.to (Wanted sc p s lo One w) g1.comes
      (λ came. bind P h n p y s g1.to (Wanted sc y g1.to mid One (To (ob ∷ []) z)) (Wanted sc p s lo One w) _ came (value (setting_at P h).spot calls b σ1) (expr_runs sc hb (and_two (suits tree sc a) (suits tree sc b) fit) (above_on words sc lo mid le above) σ1 g1.to g1.tied) (λ v σ2 g2.
      settle P h B has tree kept shapes words n sc p s t q lo w above l (unless_zero v (pos 1) (pos 0)) σ2 (flag_lands sc lo mid t ob v σ2 p z y q end s g1.to g2.to le (comes_on P h came g2.comes) ge gq (ap head_of g2.holds) g2.tied g2.keeps g1.keeps)))
      (λ came. settle P h B has tree kept shapes words n sc p s t q lo w above l (pos 0) σ1 (moved P h B has tree kept shapes words n (land P h B has tree kept shapes words n sc (Compute Mov t (Number (pos 0)) (Number (pos 0))) lo t (pos 0) σ1 p nb last s g1.to g1.to came gn refl g1.tied g1.keeps zero_fits) gl)))
    where
      flag_lands : (sc : Scope) (lo mid t : ℕ) (ob : Operand) (v : ℤ) (σ2 : Store) (p z y q end : Block) (s u1 u2 : State) → lo ≤ mid → Comes P h p s z u2 → Goes B (then_op (Compute (ToGeneral Ne) t ob (Number (pos 0))) end) z → Goes B q end → held u2 ob ≡ Some v → Tie sc σ2 u2 → Keeps mid u1 u2 → Keeps lo s u1 → InValue sc p s t q lo (unless_zero v (pos 1) (pos 0)) σ2
      flag_lands sc lo mid t ob v σ2 p z y q end s u1 u2 le c ge gq e tied k2 k1 = moved P h B has tree kept shapes words n (land P h B has tree kept shapes words n sc (Compute (ToGeneral Ne) t ob (Number (pos 0))) lo t (unless_zero v (pos 1) (pos 0)) σ2 p z end s u2 u2 c ge (computes (setting_at P h) (ToGeneral Ne) t ob (Number (pos 0)) u2 v (pos 0) e refl ∙ ap (λ r. Some (with_value u2 t (Some r))) (differs_is v)) tied (λ x b. k2 x (sooner x lo mid b le) ∙ k1 x b) (flag_fits v)) gq
  expr_runs sc (either {a = a} {b = b} {ob = ob} {p = p} {yes = yb} {n = nb} {z = z} {end = end} {last = last} {q = q} {w = w} {t = t} {lo = lo} {mid = mid} ha le hb ge gq gn gl l) fit above σ s tied =
      bind P h n p p s s (Wanted sc p s lo One (Tested yb nb)) (Wanted sc p s lo One w) _ (comes_self P h p s) (value (setting_at P h).spot calls a σ) (expr_runs sc ha (and_one (suits tree sc a) (suits tree sc b) fit) above σ s tied) (λ x σ1 g1.
      choose P h B has tree kept shapes words n x (With (pos 1) σ1) (and_then (value (setting_at P h).spot calls b σ1) (λ v σ2. With (unless_zero v (pos 1) (pos 0)) σ2)) p yb nb s g1.to (Wanted sc p s lo One w) g1.comes
      (λ came. settle P h B has tree kept shapes words n sc p s t q lo w above l (pos 1) σ1 (moved P h B has tree kept shapes words n (land P h B has tree kept shapes words n sc (Compute Mov t (Number (pos 1)) (Number (pos 0))) lo t (pos 1) σ1 p yb last s g1.to g1.to came gn refl g1.tied g1.keeps one_fits) gl))
      (λ came. bind P h n p nb s g1.to (Wanted sc nb g1.to mid One (To (ob ∷ []) z)) (Wanted sc p s lo One w) _ came (value (setting_at P h).spot calls b σ1) (expr_runs sc hb (and_two (suits tree sc a) (suits tree sc b) fit) (above_on words sc lo mid le above) σ1 g1.to g1.tied) (λ v σ2 g2.
      settle P h B has tree kept shapes words n sc p s t q lo w above l (unless_zero v (pos 1) (pos 0)) σ2 (moved P h B has tree kept shapes words n (land P h B has tree kept shapes words n sc (Compute (ToGeneral Ne) t ob (Number (pos 0))) lo t (unless_zero v (pos 1) (pos 0)) σ2 p z end s g2.to g2.to (comes_on P h came g2.comes) ge (computes (setting_at P h) (ToGeneral Ne) t ob (Number (pos 0)) g2.to v (pos 0) (ap head_of g2.holds) refl ∙ ap (λ r. Some (with_value g2.to t (Some r))) (differs_is v)) g2.tied (λ x b. g2.keeps x (sooner x lo mid b le) ∙ g1.keeps x b) (flag_fits v)) gq))))
  expr_runs sc (choice {c = c} {a = a} {b = b} {p = p} {y = y} {n = z} {ya = ya} {nb = nb} {q = q} {w = w} {t = t} {lo = lo} {mid = mid} {next = next} hc le ha ga le2 hb gb l) fit above σ s tied =
      let fit2 = and_two (suits tree sc c) (suits tree sc a && suits tree sc b) fit in
      bind P h n p p s s (Wanted sc p s lo One (Tested y z)) (Wanted sc p s lo One w) _ (comes_self P h p s) (value (setting_at P h).spot calls c σ) (expr_runs sc hc (and_one (suits tree sc c) (suits tree sc a && suits tree sc b) fit) above σ s tied) (λ x σ1 g1.
      choose P h B has tree kept shapes words n x (value (setting_at P h).spot calls a σ1) (value (setting_at P h).spot calls b σ1) p y z s g1.to (Wanted sc p s lo One w) g1.comes
      (λ came. settled sc p s t q lo w above l (value (setting_at P h).spot calls a σ1) (shift P h n p y s g1.to (InValue sc y g1.to t ya mid) (InValue sc p s t q lo) came (value (setting_at P h).spot calls a σ1) (expr_runs sc ha (and_one (suits tree sc a) (suits tree sc b) fit2) (above_on words sc lo mid le above) σ1 g1.to g1.tied) (λ v σ2 g2. moved P h B has tree kept shapes words n (farther sc p y s g1.to t ya lo mid v σ2 came g1.keeps le g2) ga)))
      (λ came. settled sc p s t q lo w above l (value (setting_at P h).spot calls b σ1) (shift P h n p z s g1.to (InValue sc z g1.to t nb next) (InValue sc p s t q lo) came (value (setting_at P h).spot calls b σ1) (expr_runs sc hb (and_two (suits tree sc a) (suits tree sc b) fit2) (above_on words sc lo next le2 above) σ1 g1.to g1.tied) (λ v σ2 g2. moved P h B has tree kept shapes words n (farther sc p z s g1.to t nb lo next v σ2 came g1.keeps le2 g2) gb))))
  expr_runs sc (apply {f = f} {t = t} {next = next} {lo = lo} {row = row} {os = os} {p = p} {m = m} {q = q} {w = w} hr g at l) fit above σ s tied =
      bind_with P h n p p s s (Wanted sc p s lo Row (To os m)) (λ xs u. takes_given xs ≡ takes_of_row row) (Wanted sc p s lo One w) _ (comes_self P h p s) (value (setting_at P h).spot calls row σ) (row_takes (setting_at P h).spot calls row σ) (expr_runs sc hr (and_two (can_call gives_int (takes_of_row row) (slice_get tree.functions f)) (suits tree sc row) fit) above σ s tied) (λ xs σ1 kinds g1.
      let came = comes_on P h g1.comes (comes_goes P h B has (ends (Call f os (Some t) next)) m g1.to g) in
      let can = can_call_at_all gives_int (takes_of_row row) (slice_get tree.functions f) (and_one (can_call gives_int (takes_of_row row) (slice_get tree.functions f)) (suits tree sc row) fit) in
      settled sc p s t q lo w above l (calls f xs σ1) (shift P h n p (ends (Call f os (Some t) next)) s g1.to (Came_back P h B has tree kept shapes words n sc (ends (Call f os (Some t) next)) g1.to q (Some t)) (InValue sc p s t q lo) came (calls f xs σ1) (meets sc f os (Some t) next q xs σ1 g1.to (subst (λ j. can_call (λ gives. true) j (slice_get tree.functions f) ≡ true) (sym kinds) can) g1.tied (ap known g1.holds ∙ known_all (passed_by shapes xs)) g1.number at) (λ v σ2 g2. record {
        to = g2.to;
        comes = comes_on P h came g2.comes;
        tied = g2.tied;
        keeps = λ u b. g2.keeps u ∙ g1.keeps u b;
        number = g2.number;
      })))
  expr_runs sc (read_int {t = t} {v = v} {c = c} {lo = lo} {p = p} {m = m} {y = y} {no = nb} {q = q} {w = w} lv lc g0 tests stop g l) fit above σ s tied = reads σ.input refl
    where
      u1 : State
      u1 = with_value s v (Some (one_if (has_left s.input)))

      came1 : Comes P h p s m u1
      came1 = comes_past P h B has (More v) p m s u1 g0 refl

      t1 : Tie sc σ u1
      t1 = tied_value P.globals (setting_at P h).spot kept shapes words sc lo v σ s (Some (one_if (has_left s.input))) above lv tied

      chosen : Chosen P h B has tree kept shapes words n sc p s y nb lo (one_if (has_left s.input)) σ
      chosen = tests_zero P h B has tree kept shapes words n sc lo c (Held v) (one_if (has_left s.input)) σ p m y nb s u1 above lc tests (value_there v s (Some (one_if (has_left s.input)))) came1 t1 (keeps_value lo v s (Some (one_if (has_left s.input))) lv)

      reads : (xs : List ℤ) → σ.input ≡ xs → Gives P h n p s (Wanted sc p s lo One w) (next_input xs σ)
      reads [] e =
          let came = subst (λ z. Comes P h p s (unless_zero z y nb) chosen.to) (ap (λ i. one_if (has_left i)) (tied.input ∙ e)) chosen.comes in
          stops P h B has n ByInput p nb s chosen.to (Wanted sc p s lo One w) σ.out came stop chosen.tied.out
      reads (x ∷ xs) e =
          let came = subst (λ z. Comes P h p s (unless_zero z y nb) chosen.to) (ap (λ i. one_if (has_left i)) (tied.input ∙ e)) chosen.comes in
          let t2 = chosen.tied in
          let u2 : State = record (chosen.to) { input = xs } in
          settle P h B has tree kept shapes words n sc p s t q lo w above l x (record σ { input = xs })
          (land P h B has tree kept shapes words n sc (Input t) lo t x (record σ { input = xs }) p y q s chosen.to u2 came g (ap (takes chosen.to t) (t2.input ∙ e)) (record { scalars = t2.scalars; handed = t2.handed; own = t2.own; others = t2.others; shape = t2.shape; source_shape = t2.source_shape; input = refl; out = t2.out; ranges = range_rest x xs σ e t2.ranges }) chosen.keeps (tied.ranges.input x (subst (λ l. IsIn x l) (sym e) (inl refl))))
  expr_runs sc (more_input {t = t} {lo = lo} {p = p} {q = q} {w = w} g l) fit above σ s tied =
      settle P h B has tree kept shapes words n sc p s t q lo w above l (one_if (is_left σ.input)) σ (land P h B has tree kept shapes words n sc (More t) lo t (one_if (is_left σ.input)) σ p p q s s s (comes_self P h p s) g (ap (λ i. Some (with_value s t (Some (one_if (has_left i))))) tied.input ∙ ap (λ b. Some (with_value s t (Some (one_if b)))) (left_same σ.input)) tied (λ u b. refl) (one_if_fits (is_left σ.input)))
    where
      left_same : (xs : List ℤ) → has_left xs ≡ is_left xs
      left_same [] = refl
      left_same (x ∷ xs) = refl

      one_if_fits : (b : Bool) → IsNumber (one_if b)
      one_if_fits true = one_fits
      one_if_fits false = zero_fits
  expr_runs sc (copied {e = e} {o = o} {p = p} {m = m} {q = q} {t = t} {lo = lo} x g) fit above σ s tied =
      shift P h n p p s s (Wanted sc p s lo One (To (o ∷ []) m)) (InValue sc p s t q lo) (comes_self P h p s) (value (setting_at P h).spot calls e σ) (expr_runs sc x fit above σ s tied) (λ v σ1 g1.
      land P h B has tree kept shapes words n sc (Compute Mov t o (Number (pos 0))) lo t v σ1 p m q s g1.to g1.to g1.comes g (computes (setting_at P h) Mov t o (Number (pos 0)) g1.to v (pos 0) (ap head_of g1.holds) refl) g1.tied g1.keeps g1.number)
  expr_runs sc (tested {e = e} {o = o} {p = p} {m = m} {yes = yb} {no = nb} {c = c} {lo = lo} x lc tests) fit above σ s tied =
      shift P h n p p s s (Wanted sc p s lo One (To (o ∷ []) m)) (Wanted sc p s lo One (Tested yb nb)) (comes_self P h p s) (value (setting_at P h).spot calls e σ) (expr_runs sc x fit above σ s tied) (λ v σ1 g1.
      tests_zero P h B has tree kept shapes words n sc lo c o v σ1 p m yb nb s g1.to above lc tests (ap head_of g1.holds) g1.comes g1.tied g1.keeps)
  expr_runs sc (compared {operator = operator} {a = a} {b = b} {oa = oa} {ob = ob} {p = p} {m = m} {n = z} {yes = yb} {no = nb} {c = c} {lo = lo} {mid = mid} compare is ha le ba hb lc tests) fit above σ s tied =
      bind P h n p p s s (Wanted sc p s lo One (To (oa ∷ []) m)) (Wanted sc p s lo One (Tested yb nb)) _ (comes_self P h p s) (value (setting_at P h).spot calls a σ) (expr_runs sc ha (and_one (suits tree sc a) (suits tree sc b) fit) above σ s tied) (λ x σ1 g1.
      bind P h n p m s g1.to (Wanted sc m g1.to mid One (To (ob ∷ []) z)) (Wanted sc p s lo One (Tested yb nb)) _ g1.comes (value (setting_at P h).spot calls b σ1) (expr_runs sc hb (and_two (suits tree sc a) (suits tree sc b) fit) (above_on words sc lo mid le above) σ1 g1.to g1.tied) (λ y σ2 g2.
      subst (λ o. Gives P h n p s (Wanted sc p s lo One (Tested yb nb)) o) (sym (comparison_value operator compare x y σ2 is))
      (tests_two P h B has tree kept shapes words n sc compare lo c oa ob x y σ2 p z yb nb s g2.to above lc tests (held_kept mid g1.to g2.to oa g2.keeps ba ∙ ap head_of g1.holds) (ap head_of g2.holds) (comes_on P h g1.comes g2.comes) g2.tied (λ v b. g2.keeps v (sooner v lo mid b le) ∙ g1.keeps v b))))
  expr_runs sc (turned {a = a} {p = p} {yes = yb} {no = nb} {lo = lo} x) fit above σ s tied =
      bind P h n p p s s (Wanted sc p s lo One (Tested nb yb)) (Wanted sc p s lo One (Tested yb nb)) _ (comes_self P h p s) (value (setting_at P h).spot calls a σ) (expr_runs sc x fit above σ s tied) (λ v σ1 g1. record {
        to = g1.to;
        comes = subst (λ b. Comes P h p s b g1.to) (not_chooses v yb nb) g1.comes;
        passes = g1.passes;
        tied = g1.tied;
        keeps = g1.keeps;
      })
  expr_runs sc (both_tested {a = a} {b = b} {p = p} {y = y} {n = z} {yb = yb} {nb = nb} {yes = one} {no = two} {lo = lo} {mid = mid} ha gn le hb gy gz) fit above σ s tied =
      bind P h n p p s s (Wanted sc p s lo One (Tested y z)) (Wanted sc p s lo One (Tested one two)) _ (comes_self P h p s) (value (setting_at P h).spot calls a σ) (expr_runs sc ha (and_one (suits tree sc a) (suits tree sc b) fit) above σ s tied) (λ x σ1 g1.
      choose P h B has tree kept shapes words n x (and_then (value (setting_at P h).spot calls b σ1) (λ v σ2. With (unless_zero v (pos 1) (pos 0)) σ2)) (With (pos 0) σ1) p y z s g1.to (Wanted sc p s lo One (Tested one two)) g1.comes
      (λ came. bind P h n p y s g1.to (Wanted sc y g1.to mid One (Tested yb nb)) (Wanted sc p s lo One (Tested one two)) _ came (value (setting_at P h).spot calls b σ1) (expr_runs sc hb (and_two (suits tree sc a) (suits tree sc b) fit) (above_on words sc lo mid le above) σ1 g1.to g1.tied) (λ v σ2 g2.
      onward sc p y s g1.to yb nb one two lo mid v (unless_zero v (pos 1) (pos 0)) σ2 came g1.keeps le gy gz (λ x y. flagged v x y) g2))
      (λ came. record { to = g1.to; comes = comes_on P h came (comes_goes P h B has two z g1.to gn); passes = g1.passes; tied = g1.tied; keeps = g1.keeps }))
  expr_runs sc (either_tested {a = a} {b = b} {p = p} {y = y} {n = z} {yb = yb} {nb = nb} {yes = one} {no = two} {lo = lo} {mid = mid} ha gn le hb gy gz) fit above σ s tied =
      bind P h n p p s s (Wanted sc p s lo One (Tested y z)) (Wanted sc p s lo One (Tested one two)) _ (comes_self P h p s) (value (setting_at P h).spot calls a σ) (expr_runs sc ha (and_one (suits tree sc a) (suits tree sc b) fit) above σ s tied) (λ x σ1 g1.
      choose P h B has tree kept shapes words n x (With (pos 1) σ1) (and_then (value (setting_at P h).spot calls b σ1) (λ v σ2. With (unless_zero v (pos 1) (pos 0)) σ2)) p y z s g1.to (Wanted sc p s lo One (Tested one two)) g1.comes
      (λ came. record { to = g1.to; comes = comes_on P h came (comes_goes P h B has one y g1.to gn); passes = g1.passes; tied = g1.tied; keeps = g1.keeps })
      (λ came. bind P h n p z s g1.to (Wanted sc z g1.to mid One (Tested yb nb)) (Wanted sc p s lo One (Tested one two)) _ came (value (setting_at P h).spot calls b σ1) (expr_runs sc hb (and_two (suits tree sc a) (suits tree sc b) fit) (above_on words sc lo mid le above) σ1 g1.to g1.tied) (λ v σ2 g2.
      onward sc p z s g1.to yb nb one two lo mid v (unless_zero v (pos 1) (pos 0)) σ2 came g1.keeps le gy gz (λ x y. flagged v x y) g2)))
  expr_runs sc (hand {a = a} {v = v} {rest = rest} {os = os} {p = p} {m = m} {q = q} {lo = lo} {mid = mid} x le hr) fit above σ s tied =
      let spot_is = (setting_at P h).spot a in
      let at = based_at sc a lo mid v p m σ s above tied (seen_at words a) refl x in
      bind P h n p m s at.to (Wanted sc m at.to mid Row (To os q)) (Wanted sc p s lo Row (To (Held v ∷ size_at words a ∷ os) q)) _ at.comes (value (setting_at P h).spot calls rest σ) (expr_runs sc hr (and_two (names_array tree sc a) (suits tree sc rest) fit) (above_on words sc lo mid le above) σ at.to at.tied) (λ xs σ2 g2. record {
        to = g2.to;
        comes = comes_on P h at.comes g2.comes;
        tied = g2.tied;
        holds = ap (λ r. r ∷ held g2.to (size_at words a) ∷ map (held g2.to) os) (g2.keeps v at.below ∙ at.stands) ∙ ap (λ r. Some (pos spot_is) ∷ r ∷ map (held g2.to) os) (held_size words (setting_at P h).spot shapes g2.to a fitting.sized g2.tied.handed) ∙ ap (λ r. Some (pos spot_is) ∷ Some (pos (slice_index_or shapes spot_is 0)) ∷ r) g2.holds;
        keeps = λ u l. g2.keeps u (sooner u lo mid l le) ∙ at.keeps u l;
        number = (one_given spot_is (arrays_given xs) (known_array sc a lo above (and_one (names_array tree sc a) (suits tree sc rest) fit)) g2.number.0, g2.number.1);
      })
    where
      one_given : (k : ℕ) (ks : List ℕ) → KnownArray P h B has tree kept shapes words n sc k → AllGiven (KnownArray P h B has tree kept shapes words n sc) ks → AllGiven (KnownArray P h B has tree kept shapes words n sc) (k ∷ ks)
      one_given k ks x f zero l = x
      one_given k ks x f (suc i) l = f i (omega arith)
  expr_runs sc (no_more {p = p}) fit above σ s tied = record { to = s; comes = comes_self P h p s; tied = tied; holds = refl; keeps = λ u l. refl; number = (λ i l. absurd (omega arith), λ i. zero_fits) }
  expr_runs sc (then {a = a} {rest = rest} {o = o} {os = os} {p = p} {m = m} {q = q} {lo = lo} {mid = mid} ha le ba hr) fit above σ s tied =
      bind P h n p p s s (Wanted sc p s lo One (To (o ∷ []) m)) (Wanted sc p s lo Row (To (o ∷ os) q)) _ (comes_self P h p s) (value (setting_at P h).spot calls a σ) (expr_runs sc ha (and_one (suits tree sc a) (suits tree sc rest) fit) above σ s tied) (λ x σ1 g1.
      bind P h n p m s g1.to (Wanted sc m g1.to mid Row (To os q)) (Wanted sc p s lo Row (To (o ∷ os) q)) _ g1.comes (value (setting_at P h).spot calls rest σ1) (expr_runs sc hr (and_two (suits tree sc a) (suits tree sc rest) fit) (above_on words sc lo mid le above) σ1 g1.to g1.tied) (λ xs σ2 g2. record {
        to = g2.to;
        comes = comes_on P h g1.comes g2.comes;
        tied = g2.tied;
        holds = ap (λ r. r ∷ map (held g2.to) os) (held_kept mid g1.to g2.to o g2.keeps ba ∙ ap head_of g1.holds) ∙ ap (λ r. Some x ∷ r) g2.holds;
        keeps = λ u l. g2.keeps u (sooner u lo mid l le) ∙ g1.keeps u l;
        number = (g2.number.0, one_number x (numbers_given xs) g1.number g2.number.1);
      }))
    where
      one_number : (x : ℤ) (xs : List ℤ) → IsNumber x → AllNumbers xs → AllNumbers (x ∷ xs)
      one_number x xs f g zero = f
      one_number x xs f g (suc i) = g i
