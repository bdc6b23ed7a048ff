-- The shape of the graphs of functions.
use Rattle.std.proofs.Common.{◌≡◌, ◌⊎◌, ℕ, zero, suc, ◌+◌, ◌*◌, ◌<◌, ◌≤◌, true, ◌==◌, List, [], ◌∷◌, ◌++◌, length, map, count_by, replicate, get_or, take, Some, None, refl, sym, ap, ◌∙◌, subst, inl, inr, arith, eq-eqb, append_assoc}
use Rattle.std.specs.Prelude.{slice_get, not, cond}
use Rattle.std.specs.List.{list_all, sum_by}
use Rattle.std.specs.Cmp.Derive.{both_true}
use Rattle.std.proofs.lemmas.List.{length-append}
use Rattle.std.proofs.lemmas.List.Sums.{sum_by-append}
use Rattle.std.proofs.lemmas.Option.{slice_get_within, get_or_from_slice_get}
use Rattle.vx_ast.specs.declared.tree.GlobalVariable.{GlobalVariable}
use Rattle.vx_ast.specs.declared.tree.GlobalVariable.TheVariants.{Scalar as ScalarGlobal, Array as ArrayGlobal}
use Rattle.vx_ast.specs.declared.tree.Takes.{Takes}
use Rattle.vx_ast.specs.declared.tree.Takes.TheVariants.{Number as TakesNumber, Array as TakesArray}
use Rattle.vx_ast.specs.Accepted.{code_nodes, function_nodes, global_words, numbers_among, arrays_among, numbers_taken, arrays_taken}
use Rattle.vx_ast.specs.Tree.{Function, Program}
use Rattle.vx_flow.specs.declared.graph.Bank.TheVariants.{General}
use Rattle.vx_flow.specs.declared.graph.Op.{Op}
use Rattle.vx_flow.specs.declared.graph.Block.{Block}
use Rattle.vx_flow.specs.declared.graph.Graph.{Graph}
use Rattle.vx_flow.specs.Effects.{IsIn}
use Rattle.vx_flow.specs.Sound.{are_distinct, is_no_global, begins_with}
use Rattle.vx_flow.proofs.SoundLists.{all_of, differs_of}
use Rattle.vx_lower.specs.declared.seen.Seen.TheVariants.{OwnArray, Handed}
use Rattle.vx_lower.specs.Seen.{Sees, seen_at, arrays_from}
use Rattle.vx_lower.specs.FlowOf.{is_general, is_branch}
use Rattle.vx_lower.specs.Builds.{closed}
use Rattle.vx_lower.specs.Graphs.{beginning, back_with_zero}
use Rattle.vx_lower.specs.Lowered.{values_for, handed_from, global_seen, arrays_seen, sees_of, first_value, global_of}
use Rattle.vx_lower.specs.Makes.{Begins}
use Rattle.vx_lower.specs.Named.{Known}
use Rattle.vx_lower.specs.Fits.{Role, Scalar, PlaceOf, Stand, bank_of_role, HasRole, Has, opened, finished, IsHandedBase, Shaped}
use Rattle.vx_lower.specs.StatementFits.{StatementWell}
use Rattle.vx_lower.specs.Shape.{Settled, finally, ArePassed}
use Rattle.vx_lower.specs.FunctionShape.{IsPair, known_of, WordsFit, BodyWell, GraphWell, GraphsWell}
use Rattle.vx_lower.specs.declared.builder.Builder.{Builder}
use Rattle.vx_lower.proofs.Bodies.{arrays_named}
use Rattle.vx_lower.proofs.Fitting.{get_more}
use Rattle.vx_lower.proofs.Passing.{Sees_as, a_global, a_handed, an_own, sees_as, length_seen, there_is}
use Rattle.vx_lower.proofs.Places.{take_next}
use Rattle.vx_lower.proofs.Shaping.{shape}

-- where every function begins: its scalars are there, and the values of what is handed over behind them

abbrev pairs : ℕ → List Role
pairs zero = []
pairs (suc n) = Stand ∷ Scalar ∷ pairs n

abbrev starting : (scalars arrays : ℕ) → List Role
starting zero n = pairs n
starting (suc s) n = Scalar ∷ starting s n

pairs_general : (n : ℕ) → replicate (2 * n) General ≡ map bank_of_role (pairs n)
pairs_general zero = refl
pairs_general (suc n) =
    let e : 2 * suc n ≡ suc (suc (2 * n)) = omega arith in
    ap (λ m. replicate m General) e ∙ ap (λ z. General ∷ General ∷ z) (pairs_general n)

all_general : (s n : ℕ) → replicate (s + 2 * n) General ≡ map bank_of_role (starting s n)
all_general zero n = let e : 0 + 2 * n ≡ 2 * n = omega arith in ap (λ m. replicate m General) e ∙ pairs_general n
all_general (suc s) n =
    let e : suc s + 2 * n ≡ suc (s + 2 * n) = omega arith in
    ap (λ m. replicate m General) e ∙ ap (λ z. General ∷ z) (all_general s n)

all_scalar : (s n v : ℕ) → v < s → HasRole (starting s n) v Scalar
all_scalar zero n v h = absurd (omega arith)
all_scalar (suc s) n zero h = refl
all_scalar (suc s) n (suc v) h = all_scalar s n v (omega arith)

pair_at : (n j : ℕ) → j < n → HasRole (pairs n) (2 * j) Stand × HasRole (pairs n) (suc (2 * j)) Scalar
pair_at zero j h = absurd (omega arith)
pair_at (suc n) zero h = (refl, refl)
pair_at (suc n) (suc j) h =
    let x = pair_at n j (omega arith) in
    let e : suc (suc (2 * j)) ≡ 2 * suc j = omega arith in
    (subst (λ v. HasRole (pairs (suc n)) v Stand) e x.0, subst (λ v. HasRole (pairs (suc n)) (suc v) Scalar) e x.1)

handed_roles : (s n j : ℕ) → j < n → HasRole (starting s n) (s + 2 * j) Stand × HasRole (starting s n) (suc (s + 2 * j)) Scalar
handed_roles zero n j h =
    let x = pair_at n j h in
    let e : 2 * j ≡ 0 + 2 * j = omega arith in
    (subst (λ v. HasRole (pairs n) v Stand) e x.0, subst (λ v. HasRole (pairs n) (suc v) Scalar) e x.1)
handed_roles (suc s) n j h =
    let x = handed_roles s n j h in
    let e : suc (s + 2 * j) ≡ suc s + 2 * j = omega arith in
    (subst (λ v. HasRole (starting (suc s) n) v Stand) e x.0, subst (λ v. HasRole (starting (suc s) n) (suc v) Scalar) e x.1)

no_pair_place : (n v a : ℕ) → HasRole (pairs n) v (PlaceOf a) → ⊥
no_pair_place zero v a h = cc
no_pair_place (suc n) zero a h = cc
no_pair_place (suc n) (suc zero) a h = cc
no_pair_place (suc n) (suc (suc v)) a h = no_pair_place n v a h

no_place : (s n v a : ℕ) → HasRole (starting s n) v (PlaceOf a) → ⊥
no_place zero n v a h = no_pair_place n v a h
no_place (suc s) n zero a h = cc
no_place (suc s) n (suc v) a h = no_place s n v a h

pair_stands : (n v : ℕ) → HasRole (pairs n) v Stand → (j : ℕ) × (j < n) × (v ≡ 2 * j)
pair_stands zero v h = absurd (cc)
pair_stands (suc n) zero h = (0, omega arith, omega arith)
pair_stands (suc n) (suc zero) h = absurd (cc)
pair_stands (suc n) (suc (suc v)) h = let x = pair_stands n v h in let l = x.1 in let e = x.2 in (suc x.0, omega arith, omega arith)

starting_stands : (s n v : ℕ) → HasRole (starting s n) v Stand → (j : ℕ) × (j < n) × (v ≡ s + 2 * j)
starting_stands zero n v h = let x = pair_stands n v h in let e = x.2 in (x.0, x.1, omega arith)
starting_stands (suc s) n zero h = absurd (cc)
starting_stands (suc s) n (suc v) h = let x = starting_stands s n v h in let e = x.2 in (x.0, x.1, omega arith)

none_made : (i : ℕ) (x : Block) → slice_get (None ∷ []) i ≡ Some (Some x) → ⊥
none_made zero x e = cc
none_made (suc i) x e = cc

none_had : (op : Op) → Has (None ∷ []) [] op → ⊥
none_had op (opened m) = m
none_had op (finished i x e m) = none_made i x e

generals_are : (n : ℕ) → count_by is_general (replicate n General) ≡ n
generals_are zero = refl
generals_are (suc n) = let h = generals_are n in let s = sum_by-append (λ y. cond (is_general y) 1 0) (General ∷ []) (replicate n General) in let e : sum_by (λ y. cond (is_general y) 1 0) (General ∷ []) ≡ 1 = refl in omega arith

branches_are : (n : ℕ) → count_by is_branch (replicate n General) ≡ 0
branches_are zero = refl
branches_are (suc n) = let h = branches_are n in let s = sum_by-append (λ y. cond (is_branch y) 1 0) (General ∷ []) (replicate n General) in let e : sum_by (λ y. cond (is_branch y) 1 0) (General ∷ []) ≡ 0 = refl in omega arith

begins_shaped : {words : Sees} (k : Known words) (texts : ℕ) (f : Function) → WordsFit words f → Shaped k texts (starting f.scalars (arrays_taken f)) (beginning (first_value f))
begins_shaped {words} k texts f w = record {
  ready = record { is = refl };
  fits = record {
    banks = all_general f.scalars (arrays_taken f);
    scalars = λ v l. let e = w.scalars in all_scalar f.scalars (arrays_taken f) v (omega arith);
    handed = λ a base size q. of_pair base size (w.handed a base size q).1;
    some = omega arith;
    ops = λ op h. absurd (none_had op h);
    exits = λ i x q. absurd (none_made i x q);
    traps = λ i x q. absurd (none_made i x q);
    single = λ i j x y c q. absurd (none_made i x q);
    made = λ v a h. absurd (no_place f.scalars (arrays_taken f) v a h);
    stands = λ v h. inl (of_stand v (starting_stands f.scalars (arrays_taken f) v h));
  };
}
  where
    of_pair : (base size : ℕ) → IsPair f base size → HasRole (starting f.scalars (arrays_taken f)) base Stand × HasRole (starting f.scalars (arrays_taken f)) size Scalar
    of_pair base size y =
        let x = handed_roles f.scalars (arrays_taken f) y.0 y.1 in
        (subst (λ v. HasRole (starting f.scalars (arrays_taken f)) v Stand) (sym y.2) x.0, subst (λ v. HasRole (starting f.scalars (arrays_taken f)) v Scalar) (sym y.3) x.1)

    of_stand : (v : ℕ) → (j : ℕ) × (j < arrays_taken f) × (v ≡ f.scalars + 2 * j) → IsHandedBase words v
    of_stand v y = let z = w.all y.0 y.1 in subst (IsHandedBase words) (sym y.2) (z.0, suc (f.scalars + 2 * y.0), z.1)

pub body_well : {words : Sees} (f : Function) (b0 b1 b2 : Builder) (t0 t1 : List (List ℕ)) → b0 ≡ beginning (first_value f) → StatementWell words f.body None None b0 b1 t0 t1 → b2 ≡ closed b1 back_with_zero b1.current → BodyWell words f b2 t1
body_well {words} f b0 b1 b2 t0 t1 e0 s e2 k fits named =
    let w = subst (λ z. StatementWell words f.body None None z b1 t0 t1) e0 s k (starting f.scalars (arrays_taken f)) (begins_shaped k (length t0) f fits) named tt tt in
    let p = w.few_generals in let q = w.few_branches in
    let g = w.keeps.general_values in let h = w.keeps.branch_values in
    let n = generals_are (first_value f) in let m = branches_are (first_value f) in
    let bg : count_by is_general b2.banks ≡ count_by is_general b1.banks = ap (λ z. count_by is_general z.banks) e2 in
    let bb : count_by is_branch b2.banks ≡ count_by is_branch b1.banks = ap (λ z. count_by is_branch z.banks) e2 in
    record { roles = w.later; last = b1; shaped = w.keeps.shaped; is = e2; general_values = omega arith; branch_values = omega arith }

-- parameters

taken_are : (takes : List Takes) → numbers_among takes + arrays_among takes ≡ length takes
taken_are [] = refl
taken_are (TakesNumber ∷ takes) = let h = taken_are takes in omega arith
taken_are (TakesArray ∷ takes) = let h = taken_are takes in omega arith

-- a value that holds what is passed
abbrev IsPassed : (x v : ℕ) → List Takes → ℕ → Type 0
IsPassed x v takes u = ((x ≤ u) × (u < x + numbers_among takes)) ⊎ ((j : ℕ) × (j < arrays_among takes) × ((u ≡ v + 2 * j) ⊎ (u ≡ suc (v + 2 * j))))

passed_in : (x v : ℕ) (takes : List Takes) (u : ℕ) → IsIn u (values_for x v takes) → IsPassed x v takes u
passed_in x v [] u m = absurd m
passed_in x v (TakesNumber ∷ takes) u (inl e) = inl (omega arith, omega arith)
passed_in x v (TakesNumber ∷ takes) u (inr m) = by (passed_in (suc x) v takes u m)
  where
    by : IsPassed (suc x) v takes u → IsPassed x v (TakesNumber ∷ takes) u
    by (inl h) = let a = h.0 in let b = h.1 in inl (omega arith, omega arith)
    by (inr h) = inr h
passed_in x v (TakesArray ∷ takes) u (inl e) = inr (0, omega arith, inl (omega arith))
passed_in x v (TakesArray ∷ takes) u (inr (inl e)) = inr (0, omega arith, inr (omega arith))
passed_in x v (TakesArray ∷ takes) u (inr (inr m)) = by (passed_in x (suc (suc v)) takes u m)
  where
    by : IsPassed x (suc (suc v)) takes u → IsPassed x v (TakesArray ∷ takes) u
    by (inl h) = inl h
    by (inr (j, l, inl e)) = inr (suc j, omega arith, inl (omega arith))
    by (inr (j, l, inr e)) = inr (suc j, omega arith, inr (omega arith))

values_distinct : (x v : ℕ) (takes : List Takes) → x + numbers_among takes ≤ v → are_distinct (values_for x v takes) ≡ true
values_distinct x v [] h = refl
values_distinct x v (TakesNumber ∷ takes) h = both_true (all_of (λ u. not (u == x)) (values_for (suc x) v takes) (λ u m. differs_of u x (far u (passed_in (suc x) v takes u m)))) (values_distinct (suc x) v takes (omega arith))
  where
    far : (u : ℕ) → IsPassed (suc x) v takes u → u ≡ x → ⊥
    far u (inl y) e = let a = y.0 in omega arith
    far u (inr (j, l, inl q)) e = omega arith
    far u (inr (j, l, inr q)) e = omega arith
values_distinct x v (TakesArray ∷ takes) h = both_true (both_true (differs_of (suc v) v (λ e. omega arith)) (all_of (λ u. not (u == v)) rest (λ u m. differs_of u v (far u (passed_in x (suc (suc v)) takes u m)))))
    (both_true (all_of (λ u. not (u == suc v)) rest (λ u m. differs_of u (suc v) (farther u (passed_in x (suc (suc v)) takes u m)))) (values_distinct x (suc (suc v)) takes (omega arith)))
  where
    rest : List ℕ
    rest = values_for x (suc (suc v)) takes

    far : (u : ℕ) → IsPassed x (suc (suc v)) takes u → u ≡ v → ⊥
    far u (inl y) e = let a = y.1 in omega arith
    far u (inr (j, l, inl q)) e = omega arith
    far u (inr (j, l, inr q)) e = omega arith

    farther : (u : ℕ) → IsPassed x (suc (suc v)) takes u → u ≡ suc v → ⊥
    farther u (inl y) e = let a = y.1 in omega arith
    farther u (inr (j, l, inl q)) e = omega arith
    farther u (inr (j, l, inr q)) e = omega arith

base_in : (x v : ℕ) (takes : List Takes) (j : ℕ) → j < arrays_among takes → IsIn (v + 2 * j) (values_for x v takes)
base_in x v [] j h = absurd (omega arith)
base_in x v (TakesNumber ∷ takes) j h = inr (base_in (suc x) v takes j h)
base_in x v (TakesArray ∷ takes) zero h = let e : v + 2 * 0 ≡ v = omega arith in inl e
base_in x v (TakesArray ∷ takes) (suc j) h =
    let e : suc (suc v) + 2 * j ≡ v + 2 * suc j = omega arith in
    inr (inr (subst (λ u. IsIn u (values_for x (suc (suc v)) takes)) e (base_in x (suc (suc v)) takes j (omega arith))))

-- what a function of a program sees

pub words_fit : (p : Program) (f : Function) → WordsFit (sees_of p f) f
words_fit p f = record { scalars = refl; handed = λ a base size e. one a base size e (sees_as p f a); all = λ j h. all j h (sees_as p f (length p.globals + j)) }
  where
    one : (a base size : ℕ) → seen_at (sees_of p f) a ≡ Handed base size → Sees_as p f a → (slice_get (arrays_seen p f) a ≡ Some (Handed base size)) × IsPair f base size
    one a base size e (a_global h q) = absurd (cc)
    one a base size e (an_own k h q) = absurd (cc)
    one a base size e (a_handed j h at q) =
        let l = length_seen p f in
        let same : Handed (f.scalars + 2 * j) (suc (f.scalars + 2 * j)) ≡ Handed base size = sym q ∙ e in
        let b : base ≡ f.scalars + 2 * j = cc in
        let s : size ≡ suc (f.scalars + 2 * j) = cc in
        (there_is (arrays_seen p f) a (OwnArray 0) (omega arith) ∙ ap Some e, (j, h, b, s))

    all : (j : ℕ) → j < arrays_taken f → Sees_as p f (length p.globals + j) → (a : ℕ) × (slice_get (arrays_seen p f) a ≡ Some (Handed (f.scalars + 2 * j) (suc (f.scalars + 2 * j))))
    all j h (a_global l q) = absurd (omega arith)
    all j h (an_own k at q) = absurd (omega arith)
    all j h (a_handed i l at q) =
        let n = length_seen p f in
        let same : i ≡ j = omega arith in
        (length p.globals + j, there_is (arrays_seen p f) (length p.globals + j) (OwnArray 0) (omega arith) ∙ ap Some (q ∙ ap (λ z. Handed (f.scalars + 2 * z) (suc (f.scalars + 2 * z))) same))

are_passed : (p : Program) (f : Function) → numbers_taken f ≤ f.scalars → ArePassed (sees_of p f) (values_for 0 f.scalars f.takes)
are_passed p f few = record { known = λ v m. known v (passed_in 0 f.scalars f.takes v m); bases = λ a base size e. based base size (fit.handed a base size (get_or_from_slice_get (arrays_seen p f) a (Handed base size) (OwnArray 0) e)).1 }
  where
    fit : WordsFit (sees_of p f) f
    fit = words_fit p f

    known : (v : ℕ) → IsPassed 0 f.scalars f.takes v → (v < f.scalars) ⊎ ((a base size : ℕ) × (slice_get (arrays_seen p f) a ≡ Some (Handed base size)) × ((v ≡ base) ⊎ (v ≡ size)))
    known v (inl h) = let l = h.1 in inl (omega arith)
    known v (inr (j, l, e)) = let y = fit.all j l in inr (y.0, f.scalars + 2 * j, suc (f.scalars + 2 * j), y.1, e)

    based : (base size : ℕ) → IsPair f base size → IsIn base (values_for 0 f.scalars f.takes)
    based base size y = subst (λ u. IsIn u (values_for 0 f.scalars f.takes)) (sym y.2) (base_in 0 f.scalars f.takes y.0 y.1)

-- arrays

own_no_global : (place : ℕ) (own : List ℕ) → list_all is_no_global (arrays_from place (map OwnArray own)) ≡ true
own_no_global place [] = refl
own_no_global place (n ∷ own) = both_true refl (own_no_global (suc place) own)

none_global : (place v n : ℕ) (own : List ℕ) → list_all is_no_global (arrays_from place (handed_from v n ++ map OwnArray own)) ≡ true
none_global place v zero own = own_no_global place own
none_global place v (suc n) own = both_true refl (none_global (suc place) (suc (suc v)) n own)

size_is : (v : GlobalVariable) → global_words v ≡ (global_of v).words
size_is (ScalarGlobal z) = refl
size_is (ArrayGlobal n) = refl

globals_first : (place : ℕ) (gs : List GlobalVariable) (v n : ℕ) (own : List ℕ) → begins_with (map global_of gs) (arrays_from place (map global_seen gs ++ (handed_from v n ++ map OwnArray own))) ≡ true
globals_first place [] v n own = none_global place v n own
globals_first place (g ∷ gs) v n own = both_true (both_true (both_true refl (eq-eqb (global_words g) (global_of g).words (size_is g))) refl) (globals_first (suc place) gs v n own)

pub graph_well : (p : Program) (f : Function) (b : Builder) (g : Graph) (after : List (List ℕ)) → g.parameters ≡ values_for 0 f.scalars f.takes → g.arrays ≡ arrays_from 0 (arrays_seen p f) → g.banks ≡ b.banks → BodyWell (sees_of p f) f b after → Settled b.blocks g.blocks → GraphWell p f g after
graph_well p f b g after ep ea eb body settled is =
    let k = known_of p f in
    let x = body k (words_fit p f) is.named in
    let banks : g.banks ≡ x.last.banks = eb ∙ ap (λ z. z.banks) x.is in
    let s : Settled (finally x.last).blocks g.blocks = subst (λ z. Settled z.blocks g.blocks) x.is settled in
    let e = is.scalars in
    let few = is.parameters in
    let counts = is.counts in
    let taken = taken_are f.takes in
    let cg : count_by is_general g.banks ≡ count_by is_general b.banks = ap (count_by is_general) eb in
    let cb : count_by is_branch g.banks ≡ count_by is_branch b.banks = ap (count_by is_branch) eb in
    let p1 = x.general_values in let p2 = x.branch_values in
    let n : function_nodes f ≡ 1 + length f.takes + code_nodes f.body = refl in
    let whole : arrays_from 0 (map global_seen p.globals ++ (handed_from f.scalars (arrays_taken f) ++ map OwnArray f.arrays)) ≡ g.arrays = ap (arrays_from 0) (sym (append_assoc (map global_seen p.globals) (handed_from f.scalars (arrays_taken f)) (map OwnArray f.arrays))) ∙ sym ea in
    record {
      shape = shape (sees_of p f) k (length after) x.roles x.last g x.shaped s banks ea (subst (ArePassed (sees_of p f)) (sym ep) (are_passed p f (omega arith)));
      general_values = omega arith;
      branch_values = omega arith;
      distinct = subst (λ z. are_distinct z ≡ true) (sym ep) (values_distinct 0 f.scalars f.takes (omega arith));
      globals = subst (λ z. begins_with (map global_of p.globals) z ≡ true) whole (globals_first 0 p.globals f.scalars (arrays_taken f) f.arrays);
      named = λ a array e. let z : 0 + a ≡ a = omega arith in arrays_named 0 (arrays_seen p f) a array (subst (λ z. slice_get z a ≡ Some array) ea e) ∙ z;
    }

-- all functions of a program

graph_on : (p : Program) (f : Function) (g : Graph) (before after : List (List ℕ)) → Begins before after → GraphWell p f g before → GraphWell p f g after
graph_on p f g before after e w is =
    let x = w is in
    let l : length after ≡ length before + length e.more = ap length e.is ∙ length-append before e.more in
    record {
      shape = record { sound = x.shape.sound; some = x.shape.some; loads = x.shape.loads; texts_there = λ n h. let u = x.shape.texts_there n h in omega arith; calls = x.shape.calls; apart = x.shape.apart; uncritical = x.shape.uncritical; entry = x.shape.entry };
      general_values = x.general_values;
      branch_values = x.branch_values;
      distinct = x.distinct;
      globals = x.globals;
      named = x.named;
    }

pub no_graphs : (p : Program) (ts : List (List ℕ)) → GraphsWell p [] [] ts
no_graphs p ts i f g e q = absurd (cc)

graphs_more : (p : Program) (fs : List Function) (gs : List Graph) (f : Function) (g : Graph) (t1 t2 : List (List ℕ)) → length gs ≡ length fs → GraphsWell p fs gs t1 → Begins t1 t2 → GraphWell p f g t2 → GraphsWell p (fs ++ f ∷ []) (gs ++ g ∷ []) t2
graphs_more p fs gs f g t1 t2 same all e w i x y q r = one (get_more fs f i x q) (get_more gs g i y r)
  where
    one : (slice_get fs i ≡ Some x) ⊎ ((i ≡ length fs) × (f ≡ x)) → (slice_get gs i ≡ Some y) ⊎ ((i ≡ length gs) × (g ≡ y)) → GraphWell p x y t2
    one (inl a) (inl c) = graph_on p x y t1 t2 e (all i x y a c)
    one (inl a) (inr c) = let u = slice_get_within fs i x a in let v = c.0 in absurd (omega arith)
    one (inr a) (inl c) = let u = slice_get_within gs i y c in let v = a.0 in absurd (omega arith)
    one (inr a) (inr c) = subst (λ z. GraphWell p z y t2) a.1 (subst (λ z. GraphWell p f z t2) c.1 w)

map_next : {A : Type 0} (view : A → Function) (xs : List A) (x : A) → map view (xs ++ x ∷ []) ≡ map view xs ++ view x ∷ []
map_next view [] x = refl
map_next view (y ∷ xs) x = ap (λ z. view y ∷ z) (map_next view xs x)

pub graphs_step : (p : Program) {A : Type 0} (view : A → Function) (xs : List A) (i : ℕ) (x : A) (gs more : List Graph) (g : Graph) (t1 t2 : List (List ℕ)) → i < length xs → x ≡ get_or xs i x → length gs ≡ length (map view (take i xs)) → GraphsWell p (map view (take i xs)) gs t1 → Begins t1 t2 → GraphWell p (view x) g t2 → more ≡ gs ++ g ∷ [] → GraphsWell p (map view (take (i + 1) xs)) more t2
graphs_step p view xs i x gs more g t1 t2 l e same all b w is =
    subst (λ z. GraphsWell p z more t2) (sym (ap (map view) (take_next xs i x l e) ∙ map_next view (take i xs) x))
    (subst (λ z. GraphsWell p (map view (take i xs) ++ view x ∷ []) z t2) (sym is) (graphs_more p (map view (take i xs)) gs (view x) g t1 t2 same all b w))
