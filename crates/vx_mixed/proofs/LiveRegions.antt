-- What a region's words read or leave live is live where they are entered.
use Rattle.std.proofs.Common.{◌≡◌, ℕ, zero, suc, ◌+◌, ◌-◌, Bool, Some, List, [], ◌∷◌, take, drop, refl, sym, ap, ◌∙◌, subst, ⊎_elim, inl, inr, arith}
use Rattle.std.specs.Prelude.{◌⊎◌, slice_get}
use Rattle.vx_flow.specs.Effects.{IsIn}
use Rattle.vx_flow.specs.Sound.{targets_of, results_of_exit}
use Rattle.vx_flow.specs.declared.graph.Edge.{Edge}
use Rattle.vx_flow.specs.declared.graph.Exit.{Exit}
use Rattle.vx_flow.specs.declared.graph.Exit.TheVariants.{Goto}
use Rattle.vx_mixed.specs.declared.region.Item.{Item}
use Rattle.vx_mixed.specs.declared.region.Item.TheVariants.{Plain, Split}
use Rattle.vx_mixed.specs.declared.region.Region.{Region}
use Rattle.vx_mixed.specs.declared.region.Node.TheVariants.{Enters}
use Rattle.vx_mixed.specs.declared.mixed.MixedGraph.{MixedGraph}
use Rattle.vx_mixed.specs.Live.{Live, here, beyond, IsPassage, by_split, to_the_end, ReadsFirst, Untouched}
use Rattle.vx_mixed.proofs.AliveWords.{OffEdge, AliveWords}

-- what a region's words read or leave live is live where they are entered
abbrev Kinds : MixedGraph → List (List Item) → Exit → ℕ → Type 0
Kinds m ws x v = ReadsFirst ws x v ⊎ ((Untouched ws v × (c : ℕ) × IsIn c (targets_of x) × (IsIn v (results_of_exit x) → ⊥) × Live m c v) ⊎ ((j : ℕ) × (word : List Item) × (slice_get ws j ≡ Some word) × Untouched (take (suc j) ws) v × OffEdge m word v))

kinds : (m : MixedGraph) (ws : List (List Item)) (x : Exit) (v : ℕ) → AliveWords m ws x v → Kinds m ws x v
kinds m [] x v (inl h) = inl h
kinds m [] x v (inr h) = inr (inl (tt, h.0, h.1, h.2, h.3))
kinds m (word ∷ ws) x v (inl h) = inl (inl h)
kinds m (word ∷ ws) x v (inr (none, inl off)) = inr (inr (0, word, refl, (none, tt), off))
kinds m (word ∷ ws) x v (inr (none, inr rest)) =
    ⊎_elim
    (λ a. inl (inr (none, a)))
    (λ y. inr (⊎_elim (λ a. inl ((none, a.0), a.1, a.2, a.3, a.4)) (λ a. inr (suc a.0, a.1, a.2, (none, a.3), a.4)) y))
    (kinds m ws x v rest)

off_split : (m : MixedGraph) (word : List Item) (v : ℕ) → OffEdge m word v → (p : ℕ) × (y : Bool) × (edge : Edge) × (d : ℕ) × IsIn (Split p y edge d) word × Live m edge.to v
off_split m [] v h = absurd h
off_split m (Plain op cluster ∷ is) v h = let r = off_split m is v h in (r.0, r.1, r.2, r.3, inr r.4, r.5)
off_split m (Split p y edge d ∷ is) v (inl h) = (p, y, edge, d, inl refl, h)
off_split m (Split p y edge d ∷ is) v (inr h) = let r = off_split m is v h in (r.0, r.1, r.2, r.3, inr r.4, r.5)

pub got : (w : ℕ) (xs : List (List Item)) (k : ℕ) → slice_get (drop w xs) k ≡ slice_get xs (w + k)
got zero xs k = let q : k ≡ 0 + k = omega arith in ap (slice_get xs) q
got (suc w) [] k = refl
got (suc w) (x ∷ xs) k = let q : suc (w + k) ≡ suc w + k = omega arith in got w xs k ∙ ap (slice_get (x ∷ xs)) q

pub live_region : (m : MixedGraph) (b r w : ℕ) (g : Region) → slice_get m.nodes b ≡ Some (Enters r w) → slice_get m.regions r ≡ Some g → (v : ℕ) → AliveWords m (drop w g.words) g.last v → Live m b v
live_region m b r w g node reg v h =
    ⊎_elim
    (λ a. here (to_the_end node reg) a)
    (λ y. ⊎_elim
    (λ a. beyond (to_the_end node reg) a.0 a.3 a.2 a.4)
    (λ a.
    let s = off_split m a.1 v a.4 in
    let there : slice_get g.words (w + a.0) ≡ Some a.1 = sym (got w g.words a.0) ∙ a.2 in
    let n : (w + a.0) + 1 - w ≡ suc a.0 = omega arith in
    let un = subst (λ z. Untouched (take z (drop w g.words)) v) (sym n) a.3 in
    let route : IsPassage m b (record { words = take ((w + a.0) + 1 - w) (drop w g.words); exit = Goto s.2.to }) = by_split w (w + a.0) s.0 s.3 s.2 s.1 a.1 node reg (omega arith) there s.4 in
    beyond route un (λ z. z) (inl refl) s.5)
    y)
    (kinds m (drop w g.words) g.last v h)
