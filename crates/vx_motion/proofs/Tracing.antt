-- Other edges between the blocks of a path go to its first.
use Rattle.std.proofs.Common.{◌≢◌, inl, inr, ℕ, List, [], ◌∷◌, drop, refl, sym, ap, subst, ◌∙◌}
use Rattle.vx_flow.specs.declared.graph.Edge.{Edge}
use Rattle.vx_flow.specs.Effects.{IsIn}
use Rattle.vx_flow.specs.Walk.{edge}
use Rattle.vx_mixed.specs.Settled.{NoTwice}
use Rattle.vx_mixed.specs.TraceOf.{inner_edges}
use Rattle.vx_mixed.specs.Valid.{NoCritical}
use Rattle.vx_mixed.proofs.Linked.{in_edge}
use Rattle.vx_mixed.proofs.PathOf.{from_inside, to_inside}
use Rattle.vx_motion.specs.Cycles.{EachCycleHas, edges_to}
use Rattle.vx_motion.specs.Paths.{PathsMeetFirst, UnusedEdge, PathsCanBeTraced}

module _ (Is : Edge → Type 0) where
  -- from one block of a path along it to another, and from there to block `first`
  closing : (first b : ℕ) (bs : List ℕ) (a : ℕ) → IsIn a (b ∷ bs) → ((e : Edge) → IsIn e (inner_edges (b ∷ bs)) → Is e) → Is (edge a first) →
      (rest : List ℕ) × ((e : Edge) → IsIn e (edges_to first (b ∷ rest)) → Is e) × ((c : ℕ) → IsIn c rest → IsIn c bs)
  closing first b bs a (inl q) s k = ([], (λ e h. elim h [ inl z ↦ subst Is (sym (z ∙ ap (λ x. edge x first) (sym q))) k | inr z ↦ absurd z ]), λ c h. absurd h)
  closing first b [] a (inr h) s k = absurd h
  closing first b (d ∷ ds) a (inr h) s k =
      let w = closing first d ds a h (λ e i. s e (inr i)) k in
      (d ∷ w.0, (λ e i. elim i [ inl z ↦ s e (inl z) | inr j ↦ w.1 e j ]), λ c i. elim i [ inl z ↦ inl z | inr j ↦ inr (w.2 c j) ])

  module _ (At : ℕ → Type 0) (uncritical : NoCritical Is) (headed : EachCycleHas Is At) where
    meets : (x : ℕ) (xs : List ℕ) → NoTwice (x ∷ xs) → ((e : Edge) → IsIn e (inner_edges (x ∷ xs)) → Is e) → ((c : ℕ) → IsIn c xs → At c → ⊥) →
        (e : Edge) → Is e → IsIn e.from (x ∷ xs) → IsIn e.to xs → IsIn e (inner_edges (x ∷ xs))
    meets x [] once s n e i from to = absurd to
    meets x (y ∷ ys) once s n e i (inl f) (inl t) = inl (ap (λ z. edge z e.to) f ∙ ap (edge x) t)
    meets x (y ∷ ys) once s n e i (inl f) (inr t) =
        let p = in_edge y e.to ys t in
        let before : IsIn p.0 (y ∷ ys) = from_inside (y ∷ ys) (edge p.0 e.to) p.1 in
        absurd (elim (uncritical e (edge x y) (edge p.0 e.to) i (s (edge x y) (inl refl)) (s (edge p.0 e.to) (inr p.1)) (sym f) refl) [
          | inl q ↦ once.1.0 (subst (λ z. IsIn z ys) (sym (ap (λ (z : Edge). z.to) q)) t)
          | inr q ↦ once.0 (subst (λ z. IsIn z (y ∷ ys)) (ap (λ (z : Edge). z.from) q ∙ f) before)
        ])
    meets x (y ∷ ys) once s n e i (inr f) (inr t) = inr (meets y ys once.1 (λ d h. s d (inr h)) (λ c h. n c (inr h)) e i f t)
    meets x (y ∷ ys) once s n e i (inr f) (inl t) =
        let w = closing y y ys e.from f (λ d h. s d (inr h)) (subst (λ z. Is (edge e.from z)) t i) in
        let h = headed (y ∷ w.0) ((λ q. absurd (some y w.0 q)), w.1) in
        absurd (n h.0 (elim h.1 [ inl q ↦ inl q | inr k ↦ inr (w.2 h.0 k) ]) h.2)
      where
        some : (b : ℕ) (bs : List ℕ) → b ∷ bs ≢ []
        some b bs q = cc

    pub path_meets : (blocks : List ℕ) → NoTwice blocks → ((e : Edge) → IsIn e (inner_edges blocks) → Is e) → ((e : Edge) → IsIn e (inner_edges blocks) → At e.to → ⊥) →
        (e : Edge) → Is e → IsIn e.from blocks → IsIn e.to (drop 1 blocks) → IsIn e (inner_edges blocks)
    path_meets [] once s n e i from to = absurd from
    path_meets (x ∷ xs) once s n e i from to = meets x xs once s (λ c h. let p = in_edge x c xs h in n (edge p.0 c) p.1) e i from to

pub paths_meet_first : PathsMeetFirst
paths_meet_first edges headers blocks u c p e h from to = path_meets (λ e. IsIn e edges) (λ b. IsIn b headers) u c blocks p.once p.follow p.enters e h from to

-- in a graph of blocks and regions

in_rest : (blocks : List ℕ) (b : ℕ) → IsIn b (drop 1 blocks) → IsIn b blocks
in_rest [] b h = h
in_rest (x ∷ xs) b h = inr h

inner_to_rest : (blocks : List ℕ) (e : Edge) → IsIn e (inner_edges blocks) → IsIn e.to blocks
inner_to_rest [] e h = absurd h
inner_to_rest (x ∷ xs) e h = inr (to_inside x xs e h)

pub paths_can_be_traced : PathsCanBeTraced
paths_can_be_traced m blocks valid headed p = record {
  some = p.some;
  unused = p.unused;
  once = p.once;
  follow = p.follow;
  no_call = p.no_call;
  back = λ e i from to.
      path_meets (UnusedEdge m) (λ b. IsIn b m.headers) (λ e f g x y z q r. valid.uncritical e f g x.is_edge y.is_edge z.is_edge q r) headed blocks p.once
      (λ d h. record { is_edge = p.follow d h; begins = p.unused d.from (from_inside blocks d h); arrives = p.unused d.to (inner_to_rest blocks d h) })
      p.enters e (record { is_edge = i; begins = p.unused e.from from; arrives = p.unused e.to (in_rest blocks e.to to) }) from to;
}
