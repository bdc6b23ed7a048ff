-- The edges that are not inside a trace, by the block that stands before each block of it.
use Rattle.std.proofs.Common.{◌≡◌, ◌≢◌, ℕ, zero, suc, ◌<◌, Bool, true, false, Option, Some, None, List, [], ◌∷◌, length, slice_index_or, slice_set, refl, sym, ap, ◌∙◌, subst, ⊎_elim, inl, inr, arith}
use Rattle.std.specs.Prelude.{◌⊎◌, ◌==◌, not, if◌then◌else◌, replicate}
use Rattle.std.specs.List.{filter}
use Rattle.std.proofs.lemmas.Bool.{cases_eq, eq-eqb, eqb-true}
use Rattle.vx_flow.specs.declared.graph.Edge.{Edge}
use Rattle.vx_flow.specs.Effects.{IsIn}
use Rattle.vx_flow.specs.Walk.{edge}
use Rattle.vx_mixed.specs.FromGraph.{is_some_of}
use Rattle.vx_mixed.specs.MovedEdges.{is_inner, with_before, before_each, follows}
use Rattle.vx_mixed.specs.Settled.{NoTwice}
use Rattle.vx_mixed.specs.TraceOf.{inner_edges}
use Rattle.vx_mixed.proofs.MovedEdges.{inner_in, inner_of}
use Rattle.vx_replace.proofs.PutSteps.{none_many, set_many}

abbrev at : List (Option ℕ) → ℕ → Option ℕ
at rows k = slice_index_or rows k None

set_here : (rows : List (Option ℕ)) (i : ℕ) (x : Option ℕ) → i < length rows → at (slice_set rows i x) i ≡ x
set_here [] i x lt = absurd (omega arith)
set_here (r ∷ rows) zero x lt = refl
set_here (r ∷ rows) (suc i) x lt = set_here rows i x (omega arith)

set_apart : (rows : List (Option ℕ)) (i k : ℕ) (x : Option ℕ) → i ≢ k → at (slice_set rows i x) k ≡ at rows k
set_apart [] i k x n = refl
set_apart (r ∷ rows) zero zero x n = absurd (n refl)
set_apart (r ∷ rows) zero (suc k) x n = refl
set_apart (r ∷ rows) (suc i) zero x n = refl
set_apart (r ∷ rows) (suc i) (suc k) x n = set_apart rows i k x (λ e. n (ap suc e))

none_at : (n k : ℕ) → at (replicate n None) k ≡ None
none_at zero k = refl
none_at (suc n) zero = refl
none_at (suc n) (suc k) = none_at n k

before_apart : (b : ℕ) (cs : List ℕ) (rows : List (Option ℕ)) (k : ℕ) → (IsIn k cs → ⊥) → at (with_before b cs rows) k ≡ at rows k
before_apart b [] rows k n = refl
before_apart b (c ∷ cs) rows k n = before_apart c cs (slice_set rows c (Some b)) k (λ i. n (inr i)) ∙ set_apart rows c k (Some b) (λ e. n (inl (sym e)))

abbrev Low : List ℕ → List (Option ℕ) → Type 0
Low cs rows = (c : ℕ) → IsIn c cs → c < length rows

low_behind : (b c : ℕ) (cs : List ℕ) (rows : List (Option ℕ)) → Low (c ∷ cs) rows → Low cs (slice_set rows c (Some b))
low_behind b c cs rows low d i = subst (λ n. d < n) (sym (set_many rows c (Some b))) (low d (inr i))

follows_from : (b : ℕ) (cs : List ℕ) (rows : List (Option ℕ)) (e : Edge) → Low cs rows → follows (with_before b cs rows) e ≡ true → IsIn e (inner_edges (b ∷ cs)) ⊎ (follows rows e ≡ true)
follows_from b [] rows e low h = inr h
follows_from b (c ∷ cs) rows e low h =
    ⊎_elim
    (λ i. inl (inr i))
    (λ f. ⊎_elim
    (λ q.
    let here : at (slice_set rows c (Some b)) e.to ≡ Some b = ap (at (slice_set rows c (Some b))) (sym q) ∙ set_here rows c (Some b) (low c (inl refl)) in
    let from : (b == e.from) ≡ true = sym (ap (λ o. is_some_of o e.from) here) ∙ f in
    inl (inl (ap (λ z. edge z e.to) (sym (eqb-true b e.from from)) ∙ ap (edge b) (sym q))))
    (λ n. inr (ap (λ o. is_some_of o e.from) (sym (set_apart rows c e.to (Some b) n)) ∙ f))
    (cases_eq c e.to))
    (follows_from c cs (slice_set rows c (Some b)) e (low_behind b c cs rows low) h)

follows_to : (b : ℕ) (cs : List ℕ) (rows : List (Option ℕ)) (e : Edge) → NoTwice cs → Low cs rows → IsIn e (inner_edges (b ∷ cs)) → follows (with_before b cs rows) e ≡ true
follows_to b [] rows e once low h = absurd h
follows_to b (c ∷ cs) rows e once low (inl q) =
    let to : e.to ≡ c = ap (λ (z : Edge). z.to) q in
    let from : e.from ≡ b = ap (λ (z : Edge). z.from) q in
    let here : at (with_before b (c ∷ cs) rows) e.to ≡ Some b =
    ap (at (with_before b (c ∷ cs) rows)) to ∙ before_apart c cs (slice_set rows c (Some b)) c once.0 ∙ set_here rows c (Some b) (low c (inl refl)) in
    ap (λ o. is_some_of o e.from) here ∙ eq-eqb b e.from (sym from)
follows_to b (c ∷ cs) rows e once low (inr h) = follows_to c cs (slice_set rows c (Some b)) e once.1 (low_behind b c cs rows low) h

same_truth : (a b : Bool) → (a ≡ true → b ≡ true) → (b ≡ true → a ≡ true) → a ≡ b
same_truth true b f g = sym (f refl)
same_truth false true f g = g refl
same_truth false false f g = refl

-- an edge is inside the trace where it goes from the block that stands before
follows_is : (n : ℕ) (blocks : List ℕ) → NoTwice blocks → ((b : ℕ) → IsIn b blocks → b < n) → (e : Edge) → follows (before_each blocks (replicate n None)) e ≡ is_inner blocks e
follows_is n [] once low e = ap (λ o. is_some_of o e.from) (none_at n e.to)
follows_is n (b ∷ cs) once low e =
    same_truth (follows (with_before b cs rows) e) (is_inner (b ∷ cs) e)
    (λ h. ⊎_elim (λ i. inner_in (b ∷ cs) e i) (λ f. absurd (let z : false ≡ true = sym (ap (λ o. is_some_of o e.from) (none_at n e.to)) ∙ f in cc)) (follows_from b cs rows e all_low h))
    (λ h. follows_to b cs rows e once.1 all_low (inner_of (b ∷ cs) e h))
  where
    rows : List (Option ℕ)
    rows = replicate n None

    all_low : Low cs (replicate n None)
    all_low c i = subst (λ k. c < k) (sym (none_many n)) (low c (inr i))

same_filter : (p q : Edge → Bool) → ((e : Edge) → p e ≡ q e) → (es : List Edge) → filter p es ≡ filter q es
same_filter p q same [] = refl
same_filter p q same (e ∷ es) = ap (λ b. if b then e ∷ filter p es else filter p es) (same e) ∙ ap (λ l. if q e then e ∷ l else l) (same_filter p q same es)

pub outer_are : (n : ℕ) (blocks : List ℕ) (edges outer : List Edge) (before : List (Option ℕ)) → NoTwice blocks → ((b : ℕ) → IsIn b blocks → b < n) → before ≡ before_each blocks (replicate n None) → outer ≡ filter (λ e. not (follows before e)) edges → outer ≡ filter (λ e. not (is_inner blocks e)) edges
outer_are n blocks edges outer before once low is are =
    are
    ∙ ap (λ rows. filter (λ e. not (follows rows e)) edges) is
    ∙ same_filter (λ e. not (follows (before_each blocks (replicate n None)) e)) (λ e. not (is_inner blocks e)) (λ e. ap not (follows_is n blocks once low e)) edges
