-- What tests of numbers tell.
use Rattle.std.proofs.Common.{◌≡◌, ◌<◌, ◌≤◌, ◌⊎◌, inl, inr, ℕ, suc, sym, ◌∙◌, arith, true, false, nat_lt, nat_le}
use Rattle.std.proofs.lemmas.Bool.{true≢false}
use Rattle.std.proofs.lemmas.Bool.Decides.{leb_tells}

pub less_or : (x y : ℕ) → (x < y) ⊎ (y ≤ x)
less_or x y = by (leb_tells (suc x) y)
  where
    by : ((nat_le (suc x) y ≡ true) × (suc x ≤ y)) ⊎ ((nat_le (suc x) y ≡ false) × (y < suc x)) → (x < y) ⊎ (y ≤ x)
    by (inl h) = let k = h.1 in inl (omega (arith, k))
    by (inr h) = let k = h.1 in inr (omega (arith, k))

pub le_is : (x y : ℕ) → nat_le x y ≡ true → x ≤ y
le_is x y e = by (leb_tells x y)
  where
    by : ((nat_le x y ≡ true) × (x ≤ y)) ⊎ ((nat_le x y ≡ false) × (y < x)) → x ≤ y
    by (inl h) = h.1
    by (inr h) = absurd (true≢false (sym e ∙ h.0))

pub is_le : (x y : ℕ) → nat_le x y ≡ false → x ≤ y → ⊥
is_le x y e l = by (leb_tells x y)
  where
    by : ((nat_le x y ≡ true) × (x ≤ y)) ⊎ ((nat_le x y ≡ false) × (y < x)) → ⊥
    by (inl h) = true≢false (sym h.0 ∙ e)
    by (inr h) = let k = h.1 in absurd (omega (arith, k, l))

pub lt_is : (x y : ℕ) → nat_lt x y ≡ true → x < y
lt_is x y e = let h = le_is (suc x) y e in omega (arith, h)

pub is_lt : (x y : ℕ) → nat_lt x y ≡ false → x < y → ⊥
is_lt x y e l = is_le (suc x) y e (omega (arith, l))
