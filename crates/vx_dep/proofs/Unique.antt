-- A pair has one delay, an operation one height.
use Rattle.std.proofs.Common.{◌≡◌, ◌<◌, ◌≤◌, ◌⊎◌, inl, inr, ◌+◌, ℕ, zero, suc, refl, ap, arith, Some, None, length, slice_get, List, [], ◌∷◌}
use Rattle.vx_flow.specs.declared.trace.Trace.{Trace}
use Rattle.vx_isa.specs.Numbers.{Numbers}
use Rattle.vx_dep.specs.declared.mode.Mode.{Mode}
use Rattle.vx_dep.specs.Delays.{Applies, AreHeights, OneDelay, OneHeight}

pub one_delay : OneDelay
one_delay m mode t i j None None d e = refl
one_delay m mode t i j None (Some y) d e = absurd (d y e.applies)
one_delay m mode t i j (Some x) None d e = absurd (e x d.applies)
one_delay m mode t i j (Some x) (Some y) d e =
    let h = d.greatest y e.applies in
    let k = e.greatest x d.applies in
    ap Some (omega arith)

-- what is there has a place below the length
below : {A : Type 0} (xs : List A) (i : ℕ) (x : A) → slice_get xs i ≡ Some x → i < length xs
below [] i x e = absurd cc
below (y ∷ ys) zero x e = omega arith
below (y ∷ ys) (suc i) x e = let h = below ys i x e in omega arith

module _ (m : Numbers) (mode : Mode) (t : Trace) (h k : ℕ → ℕ) (hs : AreHeights m mode t h) (ks : AreHeights m mode t k) where
  step : (left i : ℕ) → i < length t.ops → length t.ops ≤ i + suc left → ((j : ℕ) → j < length t.ops → length t.ops ≤ j + left → h j ≤ k j)
      → (((h i ≡ 0) × ((j delay : ℕ) → Applies m mode t i j delay → ⊥)) ⊎ ((j : ℕ) × (delay : ℕ) × Applies m mode t i j delay × (h i ≡ delay + h j))) → h i ≤ k i
  step left i inside most later (inl none) = let e = none.0 in omega arith
  step left i inside most later (inr (j, delay, a, e)) =
      let b = below t.ops j a.two a.stands_two in
      let n = a.in_order in
      let l = later j b (omega arith) in
      let u = ((ks i inside).0) j delay a in
      omega arith

  -- places at least so many from the end
  at_most : (left i : ℕ) → i < length t.ops → length t.ops ≤ i + left → h i ≤ k i
  at_most zero i inside most = absurd (omega arith)
  at_most (suc left) i inside most = step left i inside most (at_most left) ((hs i inside).1)

pub one_height : OneHeight
one_height m mode t h k hs ks i inside =
    let up = at_most m mode t h k hs ks (length t.ops) i inside (omega arith) in
    let down = at_most m mode t k h ks hs (length t.ops) i inside (omega arith) in
    omega arith
