-- At most one trace is picked: its blocks behind the seed, and then those before it, are each the only one that can come next.
use Rattle.std.proofs.Common.{◌≡◌, ◌⊎◌, inl, inr, ℕ, ◌+◌, ◌<◌, ◌≤◌, List, [], ◌∷◌, ◌++◌, length, refl, sym, ap, subst, ◌∙◌, arith, append_assoc, length-append}
use Rattle.vx_flow.specs.declared.graph.Edge.{Edge}
use Rattle.vx_flow.specs.Effects.{IsIn}
use Rattle.vx_flow.specs.Walk.{edge}
use Rattle.vx_mixed.specs.declared.mixed.MixedGraph.{MixedGraph}
use Rattle.vx_mixed.specs.TraceOf.{inner_edges}
use Rattle.vx_profile.specs.declared.counts.Counts.{Counts}
use Rattle.vx_trace.specs.Picked.{Greatest, IsUnused, IsPath, KeepsOn, Picked, OnePick, size_of}
use Rattle.vx_trace.specs.Growing.{Linked, Way}
use Rattle.vx_trace.proofs.Ways.{inner_cons, way_left, way_right, way_behind}

-- the greatest is one

order_one : (c d n k : ℕ) → (c < d) ⊎ ((c ≡ d) × (n ≤ k)) → (d < c) ⊎ ((d ≡ c) × (k ≤ n)) → n ≡ k
order_one c d n k (inl a) (inl b) = absurd (omega arith)
order_one c d n k (inl a) (inr b) = let e = b.0 in absurd (omega arith)
order_one c d n k (inr a) (inl b) = let e = a.0 in absurd (omega arith)
order_one c d n k (inr a) (inr b) = let x = a.1 in let y = b.1 in omega arith

pub greatest_one : {A : Type 0} {Is : A → Type 0} {count number : A → ℕ} (x y : A) → Greatest Is count number x → Greatest Is count number y → number x ≡ number y
greatest_one {count = count} {number = number} x y g h = order_one (count y) (count x) (number x) (number y) (g.others y h.is) (h.others x g.is)

pub way_of : (m : MixedGraph) (counts : Counts) (t : List ℕ) → IsPath m counts t → KeepsOn m t → Way (IsUnused m) (Linked m counts) t
way_of m counts t p k = record {
  blocks = p.unused;
  once = p.once;
  edges = λ e i. record { out = p.out e i; into = p.into e i; passes = record { no_back = k.no_back e i; no_header = k.no_header e i; no_call = k.no_call e i } };
}

pub path_of : (m : MixedGraph) (counts : Counts) (t : List ℕ) → Way (IsUnused m) (Linked m counts) t → IsPath m counts t
path_of m counts t w = record { unused = w.blocks; once = w.once; out = λ e i. (w.edges e i).out; into = λ e i. (w.edges e i).into }

pub keeps_of : (m : MixedGraph) (counts : Counts) (t : List ℕ) → Way (IsUnused m) (Linked m counts) t → KeepsOn m t
keeps_of m counts t w = record { no_back = λ e i. (w.edges e i).passes.no_back; no_header = λ e i. (w.edges e i).passes.no_header; no_call = λ e i. (w.edges e i).passes.no_call }

pub out_one : (m : MixedGraph) (counts : Counts) (b x y : ℕ) → Linked m counts (edge b x) → Linked m counts (edge b y) → x ≡ y
out_one m counts b x y g h = greatest_one (edge b x) (edge b y) g.out h.out

pub into_one : (m : MixedGraph) (counts : Counts) (x y b : ℕ) → Linked m counts (edge x b) → Linked m counts (edge y b) → x ≡ y
into_one m counts x y b g h = greatest_one (edge x b) (edge y b) g.into h.into

pub size_both : (m : MixedGraph) (xs ys : List ℕ) → size_of m (xs ++ ys) ≡ size_of m xs + size_of m ys
size_both m [] ys = omega arith
size_both m (x ∷ xs) ys = let h = size_both m xs ys in omega arith

-- Two lists are the same, or one goes on where the other ends.

pub data Beside (u v : List ℕ) : Type 0 where
  same : u ≡ v → Beside u v
  longer : (y : ℕ) (r : List ℕ) → v ≡ u ++ y ∷ r → Beside u v
  shorter : (y : ℕ) (r : List ℕ) → u ≡ v ++ y ∷ r → Beside u v

beside_cons : (x y : ℕ) (u v : List ℕ) → x ≡ y → Beside u v → Beside (x ∷ u) (y ∷ v)
beside_cons x y u v e (same q) = same (ap (λ z. z ∷ u) e ∙ ap (λ z. y ∷ z) q)
beside_cons x y u v e (longer z r q) = longer z r (ap (λ w. y ∷ w) q ∙ ap (λ w. w ∷ u ++ z ∷ r) (sym e))
beside_cons x y u v e (shorter z r q) = shorter z r (ap (λ w. w ∷ u) e ∙ ap (λ w. y ∷ w) q)

-- the blocks before some others, the nearest first
abbrev pub onto : List ℕ → List ℕ → List ℕ
onto [] ys = ys
onto (x ∷ xs) ys = onto xs (x ∷ ys)

pub onto_both : (xs zs ys : List ℕ) → onto (xs ++ zs) ys ≡ onto zs (onto xs ys)
onto_both [] zs ys = refl
onto_both (x ∷ xs) zs ys = onto_both xs zs (x ∷ ys)

turned : (w : List ℕ) → (p : List ℕ) × ((ys : List ℕ) → w ++ ys ≡ onto p ys)
turned [] = ([], λ ys. refl)
turned (x ∷ w) = let h = turned w in (h.0 ++ x ∷ [], λ ys. ap (λ z. x ∷ z) (h.1 ys) ∙ sym (onto_both h.0 (x ∷ []) ys))

inner_onto : (e : Edge) (p ys : List ℕ) → IsIn e (inner_edges ys) → IsIn e (inner_edges (onto p ys))
inner_onto e [] ys h = h
inner_onto e (x ∷ p) ys h = inner_onto e p (x ∷ ys) (inner_cons e x ys h)

way_onto : {P : ℕ → Type 0} {Q : Edge → Type 0} (r ys : List ℕ) → Way P Q (onto r ys) → Way P Q ys
way_onto [] ys w = w
way_onto (x ∷ r) ys w = way_behind x ys (way_onto r (x ∷ ys) w)

size_onto : (m : MixedGraph) (r ys : List ℕ) → size_of m ys ≤ size_of m (onto r ys)
size_onto m [] ys = omega arith
size_onto m (x ∷ r) ys = let h = size_onto m r (x ∷ ys) in omega arith

length_onto : (r ys : List ℕ) → length ys ≤ length (onto r ys)
length_onto [] ys = omega arith
length_onto (x ∷ r) ys = let h = length_onto r (x ∷ ys) in omega arith

-- each next block is the one

forward : (m : MixedGraph) (counts : Counts) (s : ℕ) (u v : List ℕ) → ((e : Edge) → IsIn e (inner_edges (s ∷ u)) → Linked m counts e) → ((e : Edge) → IsIn e (inner_edges (s ∷ v)) → Linked m counts e) → Beside u v
forward m counts s [] [] a b = same refl
forward m counts s [] (y ∷ v) a b = longer y v refl
forward m counts s (x ∷ u) [] a b = shorter x u refl
forward m counts s (x ∷ u) (y ∷ v) a b =
    let q : x ≡ y = out_one m counts s x y (a (edge s x) (inl refl)) (b (edge s y) (inl refl)) in
    beside_cons x y u v q (forward m counts x u v (λ e i. a e (inr i)) (λ e i. b e (inr (subst (λ z. IsIn e (inner_edges (z ∷ v))) q i))))

backward : (m : MixedGraph) (counts : Counts) (s : ℕ) (ys u v : List ℕ) → ((e : Edge) → IsIn e (inner_edges (onto u (s ∷ ys))) → Linked m counts e) → ((e : Edge) → IsIn e (inner_edges (onto v (s ∷ ys))) → Linked m counts e) → Beside u v
backward m counts s ys [] [] a b = same refl
backward m counts s ys [] (y ∷ v) a b = longer y v refl
backward m counts s ys (x ∷ u) [] a b = shorter x u refl
backward m counts s ys (x ∷ u) (y ∷ v) a b =
    let q : x ≡ y = into_one m counts x y s (a (edge x s) (inner_onto (edge x s) u (x ∷ s ∷ ys) (inl refl))) (b (edge y s) (inner_onto (edge y s) v (y ∷ s ∷ ys) (inl refl))) in
    beside_cons x y u v q (backward m counts x (s ∷ ys) u v a (λ e i. b e (subst (λ z. IsIn e (inner_edges (onto v (z ∷ s ∷ ys)))) q i)))

-- a trace, its parts known
record At (m : MixedGraph) (counts : Counts) (before : List ℕ) (seed : ℕ) (after : List ℕ) : Type 0 where
  pub way : Way (IsUnused m) (Linked m counts) (before ++ seed ∷ after)
  pub small : (before ++ seed ∷ after ≡ seed ∷ []) ⊎ (size_of m (before ++ seed ∷ after) ≤ 512)
  pub ends : (b : ℕ) → Way (IsUnused m) (Linked m counts) (seed ∷ after ++ b ∷ []) → 512 < size_of m (seed ∷ after ++ b ∷ [])
  pub begins : (b : ℕ) → Way (IsUnused m) (Linked m counts) (b ∷ before ++ seed ∷ after) → 512 < size_of m (b ∷ before ++ seed ∷ after)

at_of : (m : MixedGraph) (counts : Counts) (t : List ℕ) (p : Picked m counts t) → At m counts p.before p.seed p.after
at_of m counts t p = record {
  way = subst (Way (IsUnused m) (Linked m counts)) p.parts (way_of m counts t p.path p.keeps_on);
  small = elim p.small [ inl q ↦ inl (sym p.parts ∙ q) | inr h ↦ inr (subst (λ z. size_of m z ≤ 512) p.parts h) ];
  ends = λ b w. p.ends b (path_of m counts (p.seed ∷ p.after ++ b ∷ []) w) (keeps_of m counts (p.seed ∷ p.after ++ b ∷ []) w);
  begins = λ b w.
      let v : Way (IsUnused m) (Linked m counts) (b ∷ t) = subst (λ z. Way (IsUnused m) (Linked m counts) (b ∷ z)) (sym p.parts) w in
      subst (λ z. 512 < size_of m (b ∷ z)) p.parts (p.begins b (path_of m counts (b ∷ t) v) (keeps_of m counts (b ∷ t) v));
}

-- what goes on behind a place where all would be too many

sizes_behind : (m : MixedGraph) (before : List ℕ) (s : ℕ) (u : List ℕ) (y : ℕ) (r : List ℕ) → size_of m (s ∷ u ++ y ∷ []) ≤ size_of m (before ++ (s ∷ u ++ y ∷ r))
sizes_behind m before s u y r =
    let a = size_both m before (s ∷ u ++ y ∷ r) in
    let b = size_both m u (y ∷ r) in
    let c = size_both m u (y ∷ []) in
    omega arith

lengths_behind : (before : List ℕ) (s : ℕ) (u : List ℕ) (y : ℕ) (r : List ℕ) → 1 < length (before ++ (s ∷ u ++ y ∷ r))
lengths_behind before s u y r = omega (arith, length-append before (s ∷ u ++ y ∷ r), length-append u (y ∷ r))

beyond : (m : MixedGraph) (before : List ℕ) (s : ℕ) (u v : List ℕ) (y : ℕ) (r : List ℕ) → v ≡ u ++ y ∷ r → (before ++ s ∷ v ≡ s ∷ []) ⊎ (size_of m (before ++ s ∷ v) ≤ 512) → 512 < size_of m (s ∷ u ++ y ∷ []) → ⊥
beyond m before s u v y r q (inl alone) big =
    let e : 1 ≡ length (before ++ (s ∷ u ++ y ∷ r)) = ap length (sym alone) ∙ ap (λ z. length (before ++ s ∷ z)) q in
    let l = lengths_behind before s u y r in
    omega arith
beyond m before s u v y r q (inr few) big =
    let h : size_of m (before ++ (s ∷ u ++ y ∷ r)) ≤ 512 = subst (λ z. size_of m (before ++ s ∷ z) ≤ 512) q few in
    let l = sizes_behind m before s u y r in
    omega arith

after_beyond : (m : MixedGraph) (counts : Counts) (before before' : List ℕ) (s : ℕ) (u v : List ℕ) (y : ℕ) (r : List ℕ) → At m counts before s u → At m counts before' s v → v ≡ u ++ y ∷ r → ⊥
after_beyond m counts before before' s u v y r g h q =
    let w : Way (IsUnused m) (Linked m counts) (s ∷ v) = way_right before' (s ∷ v) h.way in
    let k : Way (IsUnused m) (Linked m counts) ((s ∷ u ++ y ∷ []) ++ r) = subst (λ z. Way (IsUnused m) (Linked m counts) (s ∷ z)) (q ∙ sym (append_assoc u (y ∷ []) r)) w in
    beyond m before' s u v y r q h.small (g.ends y (way_left (s ∷ u ++ y ∷ []) r k))

after_one : (m : MixedGraph) (counts : Counts) (before before' : List ℕ) (s : ℕ) (u v : List ℕ) → At m counts before s u → At m counts before' s v → u ≡ v
after_one m counts before before' s u v g h =
    elim (forward m counts s u v (way_right before (s ∷ u) g.way).edges (way_right before' (s ∷ v) h.way).edges) [
      | same q ↦ q
      | longer y r q ↦ absurd (after_beyond m counts before before' s u v y r g h q)
      | shorter y r q ↦ absurd (after_beyond m counts before' before s v u y r h g q)
    ]

before_beyond : (m : MixedGraph) (counts : Counts) (before before' : List ℕ) (s : ℕ) (u : List ℕ) (y : ℕ) (r : List ℕ) → At m counts before s u → At m counts before' s u → before' ++ s ∷ u ≡ onto r (y ∷ before ++ s ∷ u) → ⊥
before_beyond m counts before before' s u y r g h q =
    let w : Way (IsUnused m) (Linked m counts) (y ∷ before ++ s ∷ u) = way_onto r (y ∷ before ++ s ∷ u) (subst (Way (IsUnused m) (Linked m counts)) q h.way) in
    let big = g.begins y w in
    let size = size_onto m r (y ∷ before ++ s ∷ u) in
    let many = length_onto r (y ∷ before ++ s ∷ u) in
    let is_size : size_of m (before' ++ s ∷ u) ≡ size_of m (onto r (y ∷ before ++ s ∷ u)) = ap (size_of m) q in
    let is_many : length (before' ++ s ∷ u) ≡ length (onto r (y ∷ before ++ s ∷ u)) = ap length q in
    elim h.small [
      | inl alone ↦ (let l : length (before' ++ s ∷ u) ≡ 1 = ap length alone in omega (arith, length-append before (s ∷ u)))
      | inr few ↦ omega arith
    ]

before_one : (m : MixedGraph) (counts : Counts) (before before' : List ℕ) (s : ℕ) (u : List ℕ) → At m counts before s u → At m counts before' s u → before ++ s ∷ u ≡ before' ++ s ∷ u
before_one m counts before before' s u g h =
    let p = turned before in
    let q = turned before' in
    let is_p = p.1 (s ∷ u) in
    let is_q = q.1 (s ∷ u) in
    let by_p : (e : Edge) → IsIn e (inner_edges (onto p.0 (s ∷ u))) → Linked m counts e = λ e i. g.way.edges e (subst (λ z. IsIn e (inner_edges z)) (sym is_p) i) in
    let by_q : (e : Edge) → IsIn e (inner_edges (onto q.0 (s ∷ u))) → Linked m counts e = λ e i. h.way.edges e (subst (λ z. IsIn e (inner_edges z)) (sym is_q) i) in
    elim (backward m counts s u p.0 q.0 by_p by_q) [
      | same k ↦ is_p ∙ ap (λ z. onto z (s ∷ u)) k ∙ sym is_q
      | longer y r k ↦ absurd (before_beyond m counts before before' s u y r g h (is_q ∙ ap (λ z. onto z (s ∷ u)) k ∙ onto_both p.0 (y ∷ r) (s ∷ u) ∙ ap (λ z. onto r (y ∷ z)) (sym is_p)))
      | shorter y r k ↦ absurd (before_beyond m counts before' before s u y r h g (is_p ∙ ap (λ z. onto z (s ∷ u)) k ∙ onto_both q.0 (y ∷ r) (s ∷ u) ∙ ap (λ z. onto r (y ∷ z)) (sym is_q)))
    ]

pub one_pick : OnePick
one_pick m counts t u p q =
    let e : p.seed ≡ q.seed = greatest_one p.seed q.seed p.greatest q.greatest in
    let g = at_of m counts t p in
    let h : At m counts q.before p.seed q.after = subst (λ z. At m counts q.before z q.after) (sym e) (at_of m counts u q) in
    let k : p.after ≡ q.after = after_one m counts p.before q.before p.seed p.after q.after g h in
    let i : At m counts q.before p.seed p.after = subst (λ z. At m counts q.before p.seed z) (sym k) h in
    p.parts ∙ before_one m counts p.before q.before p.seed p.after g i ∙ ap (λ z. q.before ++ z ∷ p.after) e ∙ ap (λ z. q.before ++ q.seed ∷ z) k ∙ sym q.parts
