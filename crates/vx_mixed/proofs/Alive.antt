-- What a trace reads, or leaves live, before it is written is live at the start of its first block.
use Rattle.std.proofs.Common.{◌≡◌, ℕ, Bool, true, false, List, [], ◌∷◌, ◌++◌, refl, sym, ap, ◌∙◌, subst, ⊎_elim, inl, inr, map}
use Rattle.std.specs.Prelude.{◌⊎◌}
use Rattle.vx_flow.specs.declared.graph.Op.{Op}
use Rattle.vx_flow.specs.Effects.{reads, writes, IsIn}
use Rattle.vx_flow.specs.declared.graph.Exit.{Exit}
use Rattle.vx_flow.specs.declared.graph.Exit.TheVariants.{Goto, Split as Branch}
use Rattle.vx_mixed.specs.declared.region.Item.{Item}
use Rattle.vx_mixed.specs.declared.region.Item.TheVariants.{Split}
use Rattle.vx_mixed.specs.declared.mixed.MixedGraph.{MixedGraph}
use Rattle.vx_mixed.specs.Live.{Live, here, beyond, IsPassage, through_block, ReadsFirst, Untouched, plain, single}
use Rattle.vx_flow.specs.Live.{reads_of_exit}
use Rattle.vx_flow.specs.Walk.{edge}
use Rattle.vx_mixed.specs.Path.{Path, ends, jumps, on_yes, on_no}
use Rattle.vx_mixed.specs.Alive.{AtEnd, Alive}
use Rattle.vx_mixed.proofs.Contents.{in_append}

pub in_whole : (v : ℕ) (xs : List ℕ) → IsIn v (xs ++ []) → IsIn v xs
in_whole v [] h = h
in_whole v (x ∷ xs) (inl h) = inl h
in_whole v (x ∷ xs) (inr h) = inr (in_whole v xs h)

-- through the operations of a block
through : (m : MixedGraph) (ops : List Op) (rest : List Item) (x : Exit) (v : ℕ) (E : Type 0) → Alive m (map plain ops ++ rest) v E → (ReadsFirst (map single ops) x v) ⊎ (Untouched (map single ops) v × Alive m rest v E)
through m [] rest x v E h = inr (tt, h)
through m (op ∷ ops) rest x v E (inl h) = inl (inl (in_append v (reads op) [] (inl h)))
through m (op ∷ ops) rest x v E (inr (inl h)) = absurd h
through m (op ∷ ops) rest x v E (inr (inr h)) =
    ⊎_elim
    (λ a. inl (inr ((λ w. h.0 (in_whole v (writes op) w)), a)))
    (λ a. inr (((λ w. h.0 (in_whole v (writes op) w)), a.0), a.1))
    (through m ops rest x v E h.1)

reads_exit : (ops : List Op) (x : Exit) (v : ℕ) → Untouched (map single ops) v → IsIn v (reads_of_exit x) → ReadsFirst (map single ops) x v
reads_exit [] x v u h = h
reads_exit (op ∷ ops) x v u h = inr (u.0, reads_exit ops x v u.1 h)

nothing_after : (is : List Item) → is ++ [] ≡ is
nothing_after [] = refl
nothing_after (i ∷ is) = ap (λ z. i ∷ z) (nothing_after is)

pub live_start : (m : MixedGraph) (meet : ℕ → ℕ → Bool) {b l : ℕ} {is : List Item} {x : Exit} → Path m meet b is l x → (v : ℕ) → Alive m is v (AtEnd m x v) → Live m b v
live_start m meet {b} {l} {is} {x} (ends ops e i el all) v h =
    let route : IsPassage m b (record { words = map single ops; exit = x }) = through_block e in
    ⊎_elim
    (λ a. here route a)
    (λ a. ⊎_elim (λ q. here route (reads_exit ops x v a.0 q)) (λ q. beyond route a.0 q.2 q.1 q.3) a.1)
    (through m ops [] x v (AtEnd m x v) (subst (λ z. Alive m z v (AtEnd m x v)) (i ∙ sym (nothing_after (map plain ops))) h))
live_start m meet {b} {l} {is} {x} (jumps c ops rest e inner i path) v h =
    let route : IsPassage m b (record { words = map single ops; exit = Goto c }) = through_block e in
    ⊎_elim
    (λ a. here route a)
    (λ a. beyond route a.0 (λ z. z) (inl refl) (live_start m meet path v a.1))
    (through m ops rest (Goto c) v (AtEnd m x v) (subst (λ z. Alive m z v (AtEnd m x v)) i h))
live_start m meet {b} {l} {is} {x} (on_yes p c d ops rest e inner out i path) v h =
    let route : IsPassage m b (record { words = map single ops; exit = Branch p c d }) = through_block e in
    ⊎_elim
    (λ a. here route a)
    (λ a. ⊎_elim
    (λ q. here route (reads_exit ops (Branch p c d) v a.0 q))
    (λ y. ⊎_elim (λ q. beyond route a.0 (λ z. z) (inr (inl refl)) q) (λ q. beyond route a.0 (λ z. z) (inl refl) (live_start m meet path v q.1)) y)
    a.1)
    (through m ops (Split p false (edge b d) 0 ∷ rest) (Branch p c d) v (AtEnd m x v) (subst (λ z. Alive m z v (AtEnd m x v)) i h))
live_start m meet {b} {l} {is} {x} (on_no p c d ops rest e inner out i path) v h =
    let route : IsPassage m b (record { words = map single ops; exit = Branch p c d }) = through_block e in
    ⊎_elim
    (λ a. here route a)
    (λ a. ⊎_elim
    (λ q. here route (reads_exit ops (Branch p c d) v a.0 q))
    (λ y. ⊎_elim (λ q. beyond route a.0 (λ z. z) (inl refl) q) (λ q. beyond route a.0 (λ z. z) (inr (inl refl)) (live_start m meet path v q.1)) y)
    a.1)
    (through m ops (Split p true (edge b c) 0 ∷ rest) (Branch p c d) v (AtEnd m x v) (subst (λ z. Alive m z v (AtEnd m x v)) i h))
