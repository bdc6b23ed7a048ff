-- A trace grows by a block, and when it has come to its ends.
use Rattle.std.proofs.Common.{◌≡◌, ◌⊎◌, inl, inr, ℕ, ◌+◌, ◌<◌, ◌≤◌, Bool, true, false, Some, None, List, [], ◌∷◌, ◌++◌, length, refl, sym, ap, subst, ◌∙◌, arith, eqb, eqb-true}
use Rattle.std.specs.List.{AllByRecursion, list_any, IsDistinct}
use Rattle.std.proofs.lemmas.Map.Steps.{length-le_from_distinct_below}
use Rattle.vx_flow.specs.declared.graph.Edge.{Edge}
use Rattle.vx_flow.specs.Effects.{IsIn}
use Rattle.vx_flow.specs.Walk.{edge}
use Rattle.vx_flow.proofs.Members.{in_last}
use Rattle.vx_mixed.specs.declared.mixed.MixedGraph.{MixedGraph}
use Rattle.vx_mixed.specs.Settled.{NoTwice}
use Rattle.vx_mixed.specs.TraceOf.{block_at}
use Rattle.vx_profile.specs.declared.counts.Counts.{Counts}
use Rattle.vx_trace.specs.Growing.{Way, Linked, IsFree, OnlyOne, GrownForward, GrownBackward}
use Rattle.vx_trace.specs.Picked.{Greatest, IsUnused, Picked, size_of, count_of_block}
use Rattle.vx_trace.proofs.Readings.{or_cases, unused_below}
use Rattle.vx_trace.proofs.Unique.{way_of, path_of, keeps_of, size_both}
use Rattle.vx_trace.proofs.Ways.{Pushed, pushed, way_push, way_front, way_alone}

-- forward

pub record Ahead (m : MixedGraph) (Q : Edge → Type 0) (seed : ℕ) (t : List ℕ) (last ops : ℕ) : Type 0 where
  pub after : List ℕ
  pub is : t ≡ seed ∷ after
  pub front : List ℕ
  pub ends : t ≡ front ++ last ∷ []
  pub way : Way (IsUnused m) Q t
  pub small : (after ≡ []) ⊎ (size_of m t ≤ 512)
  pub ops_are : ops ≡ size_of m t
  pub few : ops < 8589934592

pub ahead_start : (m : MixedGraph) (Q : Edge → Type 0) (seed : ℕ) (t : List ℕ) (ops : ℕ) → IsUnused m seed → t ≡ seed ∷ [] → ops ≡ length (block_at m seed).ops → ops < 4294967296 → Ahead m Q seed t seed ops
ahead_start m Q seed t ops u is size few = record {
  after = [];
  is = is;
  front = [];
  ends = is;
  way = subst (Way (IsUnused m) Q) (sym is) (way_alone seed u);
  small = inl refl;
  ops_are = (let e : size_of m t ≡ size_of m (seed ∷ []) = ap (size_of m) is in omega arith);
  few = omega arith;
}

pub ahead_step : (m : MixedGraph) (Q : Edge → Type 0) (seed : ℕ) (t u : List ℕ) (last next ops more : ℕ) → Ahead m Q seed t last ops → IsFree m t next → Q (edge last next) → u ≡ t ++ next ∷ [] → more ≡ ops + length (block_at m next).ops → more ≤ 512 → Ahead m Q seed u next more
ahead_step m Q seed t u last next ops more a free q is size fits =
    let e : size_of m u ≡ size_of m (t ++ next ∷ []) = ap (size_of m) is in
    let s = size_both m t (next ∷ []) in
    let o = a.ops_are in
    let total : more ≡ size_of m u = omega arith in
    record {
      after = a.after ++ next ∷ [];
      is = is ∙ ap (λ z. z ++ next ∷ []) a.is;
      front = t;
      ends = is;
      way = subst (Way (IsUnused m) Q) (sym (is ∙ ap (λ z. z ++ next ∷ []) a.ends)) (way_push a.front last next (subst (Way (IsUnused m) Q) a.ends a.way) free.0 (λ i. free.1 (subst (IsIn next) (sym a.ends) i)) q);
      small = inr (omega arith);
      ops_are = total;
      few = omega arith;
    }

ahead_only : (m : MixedGraph) (Q : Edge → Type 0) (seed : ℕ) (t : List ℕ) (last ops b : ℕ) → Ahead m Q seed t last ops → Way (IsUnused m) Q (t ++ b ∷ []) → IsFree m t b × Q (edge last b)
ahead_only m Q seed t last ops b a w =
    let p : Pushed (IsUnused m) Q a.front last b = pushed a.front last b (subst (λ z. Way (IsUnused m) Q (z ++ b ∷ [])) a.ends w) in
    ((p.block, λ i. p.apart (subst (IsIn b) a.ends i)), p.along)

pub ahead_none : (m : MixedGraph) (Q : Edge → Type 0) (seed : ℕ) (t : List ℕ) (last ops : ℕ) → Ahead m Q seed t last ops → OnlyOne (λ b. IsFree m t b × Q (edge last b)) None → GrownForward m Q seed t
ahead_none m Q seed t last ops a n = record { after = a.after; is = a.is; way = a.way; small = a.small; ends = λ b w. absurd (n b (ahead_only m Q seed t last ops b a w)) }

pub ahead_full : (m : MixedGraph) (Q : Edge → Type 0) (seed : ℕ) (t : List ℕ) (last next ops more : ℕ) → Ahead m Q seed t last ops → OnlyOne (λ b. IsFree m t b × Q (edge last b)) (Some next) → more ≡ ops + length (block_at m next).ops → 512 < more → GrownForward m Q seed t
ahead_full m Q seed t last next ops more a n size big = record {
  after = a.after;
  is = a.is;
  way = a.way;
  small = a.small;
  ends = λ b w.
      let q : b ≡ next = n.1 b (ahead_only m Q seed t last ops b a w) in
      let s = size_both m t (next ∷ []) in
      let o = a.ops_are in
      let h : 512 < size_of m (t ++ next ∷ []) = omega arith in
      subst (λ z. 512 < size_of m (t ++ z ∷ [])) (sym q) h;
}

-- backward

pub record Aback (m : MixedGraph) (Q : Edge → Type 0) (from t : List ℕ) (first ops : ℕ) : Type 0 where
  pub before : List ℕ
  pub is : t ≡ before ++ from
  pub rest : List ℕ
  pub begins : t ≡ first ∷ rest
  pub way : Way (IsUnused m) Q t
  pub small : (before ≡ []) ⊎ (size_of m t ≤ 512)
  pub ops_are : ops ≡ size_of m t
  pub few : ops < 8589934592

pub aback_start : (m : MixedGraph) (Q : Edge → Type 0) (seed : ℕ) (from : List ℕ) (ops : ℕ) → GrownForward m Q seed from → ops ≡ size_of m from → ops < 8589934592 → Aback m Q from from seed ops
aback_start m Q seed from ops g size few = record { before = []; is = refl; rest = g.after; begins = g.is; way = g.way; small = inl refl; ops_are = size; few = few }

pub aback_step : (m : MixedGraph) (Q : Edge → Type 0) (from t u : List ℕ) (first next ops more : ℕ) → Aback m Q from t first ops → IsFree m t next → Q (edge next first) → u ≡ next ∷ t → more ≡ ops + length (block_at m next).ops → more ≤ 512 → Aback m Q from u next more
aback_step m Q from t u first next ops more a free q is size fits =
    let e : size_of m u ≡ size_of m (next ∷ t) = ap (size_of m) is in
    let o = a.ops_are in
    let total : more ≡ size_of m u = omega arith in
    record {
      before = next ∷ a.before;
      is = is ∙ ap (λ z. next ∷ z) a.is;
      rest = t;
      begins = is;
      way = subst (Way (IsUnused m) Q) (sym (is ∙ ap (λ z. next ∷ z) a.begins)) (way_front next first a.rest (subst (Way (IsUnused m) Q) a.begins a.way) free.0 (λ i. free.1 (subst (IsIn next) (sym a.begins) i)) q);
      small = inr (omega arith);
      ops_are = total;
      few = omega arith;
    }

pub last_unused : (m : MixedGraph) (Q : Edge → Type 0) (seed : ℕ) (t : List ℕ) (last ops : ℕ) → Ahead m Q seed t last ops → IsUnused m last
last_unused m Q seed t last ops a = a.way.blocks last (subst (IsIn last) (sym a.ends) (in_last last a.front))

pub first_unused : (m : MixedGraph) (Q : Edge → Type 0) (from t : List ℕ) (first ops : ℕ) → Aback m Q from t first ops → IsUnused m first
first_unused m Q from t first ops a = a.way.blocks first (subst (IsIn first) (sym a.begins) (inl refl))

aback_only : (m : MixedGraph) (Q : Edge → Type 0) (from t : List ℕ) (first ops b : ℕ) → Aback m Q from t first ops → Way (IsUnused m) Q (b ∷ t) → IsFree m t b × Q (edge b first)
aback_only m Q from t first ops b a w =
    let v : Way (IsUnused m) Q (b ∷ first ∷ a.rest) = subst (λ z. Way (IsUnused m) Q (b ∷ z)) a.begins w in
    ((w.blocks b (inl refl), w.once.0), v.edges (edge b first) (inl refl))

pub aback_none : (m : MixedGraph) (Q : Edge → Type 0) (from t : List ℕ) (first ops : ℕ) → Aback m Q from t first ops → OnlyOne (λ b. IsFree m t b × Q (edge b first)) None → GrownBackward m Q from t
aback_none m Q from t first ops a n = record { before = a.before; is = a.is; way = a.way; small = a.small; begins = λ b w. absurd (n b (aback_only m Q from t first ops b a w)) }

pub aback_full : (m : MixedGraph) (Q : Edge → Type 0) (from t : List ℕ) (first next ops more : ℕ) → Aback m Q from t first ops → OnlyOne (λ b. IsFree m t b × Q (edge b first)) (Some next) → more ≡ ops + length (block_at m next).ops → 512 < more → GrownBackward m Q from t
aback_full m Q from t first next ops more a n size big = record {
  before = a.before;
  is = a.is;
  way = a.way;
  small = a.small;
  begins = λ b w.
      let q : b ≡ next = n.1 b (aback_only m Q from t first ops b a w) in
      let o = a.ops_are in
      let h : 512 < size_of m (next ∷ t) = omega arith in
      subst (λ z. 512 < size_of m (z ∷ t)) (sym q) h;
}

-- a trace has no more blocks than there are

any_in : (x : ℕ) (xs : List ℕ) → list_any (eqb x) xs ≡ true → IsIn x xs
any_in x [] h = absurd (cc)
any_in x (y ∷ ys) h = elim (or_cases (eqb x y) (list_any (eqb x) ys) h) [ inl q ↦ inl (eqb-true x y q) | inr k ↦ inr (any_in x ys k) ]

none_is : (x : ℕ) (xs : List ℕ) → (IsIn x xs → ⊥) → AllByRecursion (λ y. eqb x y ≡ false) xs
none_is x [] n = tt
none_is x (y ∷ ys) n = (by (eqb x y) refl, none_is x ys (λ h. n (inr h)))
  where
    by : (t : Bool) → eqb x y ≡ t → eqb x y ≡ false
    by true q = absurd (n (inl (eqb-true x y q)))
    by false q = q

distinct : (xs : List ℕ) → NoTwice xs → IsDistinct eqb xs
unfolding IsDistinct
distinct [] h = tt
distinct (x ∷ xs) h = (none_is x xs h.0, distinct xs h.1)

pub few_blocks : (m : MixedGraph) (Q : Edge → Type 0) (t : List ℕ) → Way (IsUnused m) Q t → length t ≤ length m.nodes
few_blocks m Q t w = length-le_from_distinct_below t (length m.nodes) (distinct t w.once) (λ q h. unused_below m q (w.blocks q (any_in q t h)))

-- what is picked

pub picked : (m : MixedGraph) (counts : Counts) (seed : ℕ) (from t : List ℕ) → Greatest (IsUnused m) (count_of_block m counts) (λ b. b) seed → GrownForward m (Linked m counts) seed from → GrownBackward m (Linked m counts) from t → Picked m counts t
picked m counts seed from t greatest f g = record {
  before = g.before;
  seed = seed;
  after = f.after;
  parts = g.is ∙ ap (λ z. g.before ++ z) f.is;
  greatest = greatest;
  path = path_of m counts t g.way;
  keeps_on = keeps_of m counts t g.way;
  small = elim g.small [
    | inl none ↦ (let same : t ≡ from = g.is ∙ ap (λ z. z ++ from) none in elim f.small [
      | inl alone ↦ inl (same ∙ f.is ∙ ap (λ z. seed ∷ z) alone)
      | inr few ↦ inr (subst (λ z. size_of m z ≤ 512) (sym same) few)
    ])
    | inr few ↦ inr few
  ];
  ends = λ b p k.
      let w = way_of m counts (seed ∷ f.after ++ b ∷ []) p k in
      subst (λ z. 512 < size_of m (z ++ b ∷ [])) f.is (f.ends b (subst (λ z. Way (IsUnused m) (Linked m counts) (z ++ b ∷ [])) (sym f.is) w));
  begins = λ b p k. g.begins b (way_of m counts (b ∷ t) p k);
}
