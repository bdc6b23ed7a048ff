-- Edges that stand once and are sorted by their numbers ascend.
use Rattle.std.proofs.Common.{◌≡◌, ◌≢◌, ℕ, suc, ◌+◌, ◌^◌, ◌<◌, ◌≤◌, Bool, false, List, [], ◌∷◌, length, slice_index_or, refl, sym, ap, ◌∙◌, subst, ⊎_elim, inl, inr, arith}
use Rattle.std.specs.Prelude.{if◌then◌else◌}
use Rattle.std.specs.List.{sum_by}
use Rattle.std.specs.List.Sorted.{IsNonDecreasingBy, IsPermutation}
use Rattle.std.proofs.lemmas.Bool.{cases_lt}
use Rattle.std.proofs.lemmas.List.Sums.{sum_by-cons}
use Rattle.std.proofs.lemmas.List.Sorted.{IsNonDecreasingBy-drop, sum_by-IsPermutation}
use Rattle.vx_flow.specs.declared.graph.Edge.{Edge}
use Rattle.vx_flow.specs.Effects.{IsIn}
use Rattle.vx_flow.specs.Walk.{edge}
use Rattle.vx_mixed.specs.Edges.{Before, Ascending}
use Rattle.vx_mixed.specs.FromGraph.{same_edge}
use Rattle.vx_mixed.specs.MovedEdges.{edge_key}
use Rattle.vx_mixed.proofs.NewNodes.{is_same_edge, edges_or}

-- how often an edge stands in a list
abbrev one_if : Bool → ℕ
one_if t = if t then 1 else 0

abbrev times : Edge → List Edge → ℕ
times x es = sum_by (λ y. one_if (same_edge x y)) es

times_cons : (x y : Edge) (ys : List Edge) → times x (y ∷ ys) ≡ one_if (same_edge x y) + times x ys
times_cons x y ys = sum_by-cons (λ y. one_if (same_edge x y)) y ys

times_here : (x y : Edge) (ys : List Edge) → x ≡ y → times x (y ∷ ys) ≡ 1 + times x ys
times_here x y ys e = times_cons x y ys ∙ ap (λ t. one_if t + times x ys) (is_same_edge x y e)

times_off : (x y : Edge) (ys : List Edge) → same_edge x y ≡ false → times x (y ∷ ys) ≡ times x ys
times_off x y ys e = let a : times x (y ∷ ys) ≡ 0 + times x ys = times_cons x y ys ∙ ap (λ t. one_if t + times x ys) e in omega arith

times_more : (x y : Edge) (ys : List Edge) → times x ys ≤ times x (y ∷ ys)
times_more x y ys = let e = times_cons x y ys in omega arith

in_times : (x : Edge) (ys : List Edge) → IsIn x ys → 1 ≤ times x ys
in_times x [] h = absurd h
in_times x (y ∷ ys) (inl e) = let a = times_here x y ys e in omega arith
in_times x (y ∷ ys) (inr h) = let a = in_times x ys h in let b = times_more x y ys in omega arith

times_in : (x : Edge) (ys : List Edge) → 1 ≤ times x ys → IsIn x ys
times_in x [] h = absurd (let z : times x [] ≡ 0 = refl in omega arith)
times_in x (y ∷ ys) h = ⊎_elim (λ e. inl e) (λ f. inr (times_in x ys (let a = times_off x y ys f in omega arith))) (edges_or x y)

times_none : (x : Edge) (ys : List Edge) → (IsIn x ys → ⊥) → times x ys ≡ 0
times_none x ys n = ⊎_elim (λ l. absurd (n (times_in x ys (omega arith)))) (λ g. omega arith) (cases_lt 0 (times x ys))

-- a permutation has the same edges

pub moved_in : (xs ys : List Edge) (x : Edge) → IsPermutation xs ys → IsIn x xs → IsIn x ys
moved_in xs ys x p h = let a = in_times x xs h in let b = sum_by-IsPermutation (λ y. one_if (same_edge x y)) xs ys p in times_in x ys (omega arith)

pub moved_out : (xs ys : List Edge) (x : Edge) → IsPermutation xs ys → IsIn x ys → IsIn x xs
moved_out xs ys x p h = let a = in_times x ys h in let b = sum_by-IsPermutation (λ y. one_if (same_edge x y)) xs ys p in times_in x xs (omega arith)

-- each stands once
abbrev pub Once : List Edge → Type 0
Once [] = Unit {0}
Once (e ∷ es) = (IsIn e es → ⊥) × Once es

once_times : (x : Edge) (es : List Edge) → Once es → times x es ≤ 1
once_times x [] o = let z : times x [] ≡ 0 = refl in omega arith
once_times x (e ∷ es) o =
    ⊎_elim
    (λ s. let a = times_here x e es s in let b = times_none x es (λ h. o.0 (subst (λ z. IsIn z es) s h)) in omega arith)
    (λ f. let a = times_off x e es f in let b = once_times x es o.1 in omega arith)
    (edges_or x e)

-- they ascend

there : (es : List Edge) (f d : Edge) → IsIn f es → (i : ℕ) × (i < length es) × (slice_index_or es i d ≡ f)
there [] f d h = absurd h
there (y ∷ es) f d (inl q) = (0, omega arith, sym q)
there (y ∷ es) f d (inr h) = let r = there es f d h in let low = r.1 in (suc r.0, omega arith, r.2)

same_ends : (e f : Edge) → e.from ≡ f.from → e.to ≡ f.to → e ≡ f
same_ends e f p q = ap (λ z. edge z e.to) p ∙ ap (λ z. edge f.from z) q

before : (e f : Edge) → edge_key e ≤ edge_key f → e ≢ f → e.to < 2 ^ 32 → f.to < 2 ^ 32 → Before e f
before e f key apart low low' = ⊎_elim (λ l. inl l) (λ g. by (one_from g)) (cases_lt e.from f.from)
  where
    one_from : f.from ≤ e.from → e.from ≡ f.from
    one_from g = omega arith

    by : e.from ≡ f.from → Before e f
    by s = ⊎_elim (λ l. inr (s, l)) (λ g. absurd (apart (same_ends e f s (omega arith)))) (cases_lt e.to f.to)

ascend : (es : List Edge) → IsNonDecreasingBy edge_key es → ((x : Edge) → times x es ≤ 1) → ((x : Edge) → IsIn x es → x.to < 2 ^ 32) → Ascending es
ascend [] sorted once low = tt
ascend (e ∷ es) sorted once low = (
  (λ f h. before e f (key f h) (apart f h) (low e (inl refl)) (low f (inr h))),
  ascend es (IsNonDecreasingBy-drop edge_key 1 (e ∷ es) sorted) (λ x. let a = times_more x e es in let b = once x in omega arith) (λ x h. low x (inr h)),
)
  where
    key : (f : Edge) → IsIn f es → edge_key e ≤ edge_key f
    key f h = let r = there es f e h in let low = r.1 in subst (λ z. edge_key e ≤ edge_key z) r.2 (sorted 0 (suc r.0) e (omega arith) (omega arith))

    apart : (f : Edge) → IsIn f es → e ≢ f
    apart f h q = let a = in_times e es (subst (λ z. IsIn z es) (sym q) h) in let b = times_here e e es refl in let c = once e in omega arith

-- from a list where each stands once
pub sorted_ascend : (xs ys : List Edge) → Once xs → IsPermutation xs ys → IsNonDecreasingBy edge_key ys → ((x : Edge) → IsIn x ys → x.to < 2 ^ 32) → Ascending ys
sorted_ascend xs ys once p sorted low =
    ascend ys sorted (λ x. let a = once_times x xs once in let b = sum_by-IsPermutation (λ y. one_if (same_edge x y)) xs ys p in omega arith) low
