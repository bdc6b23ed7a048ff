-- The number below a number that is not below 1 has 32 bits, and no more than 32 places of a number are known.
use Rattle.std.proofs.Common.{◌≡◌, ◌&&◌, ◌==◌, Bool, true, false, cond, nat_le, ◌≤ℤ◌, ◌≤◌, ◌+◌, ◌-◌, ℕ, zero, suc, ℤ, pos, negsuc, ◌-ℤ◌, int_le, Fits, refl, sym, ap, subst, arith, w32, ◌∙◌}
use mir.Val.{SFits}
use Rattle.std.proofs.lemmas.Int.{ints}
use Rattle.std.proofs.lemmas.Bool.{false≢true, leb-true}
use Rattle.vx_claims.specs.declared.intervals.Interval.{Interval}
use Rattle.vx_claims.specs.Residues.{fewer, low_bits, empty_places}
use Rattle.vx_claims.specs.Facts.{greatest, is_above}

last_two : (a b c : Bool) → (a && (b && c)) ≡ true → (b ≡ true) × (c ≡ true)
last_two true true c h = (refl, h)
last_two true false c h = absurd (false≢true h)
last_two false b c h = absurd (false≢true h)

less_fits : (z : ℤ) → int_le (pos 1) z ≡ true → int_le z greatest ≡ true → SFits w32 (z -ℤ pos 1)
less_fits (pos zero) h k = absurd (false≢true h)
less_fits (pos (suc n)) h k =
    let most : pos (suc n) ≤ℤ greatest = omega (arith, ints) in
    let below : pos n ≤ℤ greatest = omega (arith, ints) in
    let is : pos (suc n) -ℤ pos 1 ≡ pos n = omega (arith, ints) in
    subst (SFits w32) (sym is) (record { sfits = omega (arith, ints, below) })
less_fits (negsuc n) h k = absurd (false≢true h)

pub above_fits : (j : Interval) → is_above (pos 1) j ≡ true → SFits w32 (j.high -ℤ pos 1)
above_fits j h = let t = last_two (int_le (pos 1) j.low) (int_le (pos 1) j.high) (int_le j.high greatest) h in less_fits j.high t.0 t.1

-- ---- places

fewer_bound : (t : Bool) (m n : ℕ) → nat_le m n ≡ t → cond t m n ≤ n
fewer_bound true m n e = leb-true m n e
fewer_bound false m n e = omega arith

pub at_most_word : (m : ℕ) → fewer m 32 ≤ 32
at_most_word m = fewer_bound (nat_le m 32) m 32 refl

pub empty_at_most : (k : ℕ) (n : ℤ) → empty_places k n ≤ k
empty_at_most zero n = omega arith
empty_at_most (suc k) n = by (low_bits (suc k) n == 0) (empty_at_most k n)
  where
    by : (t : Bool) → empty_places k n ≤ k → cond t (suc k) (empty_places k n) ≤ suc k
    by true h = omega arith
    by false h = omega arith

-- the places that are known of a product are 32 at most
pub product_places : (m : ℕ) (n : ℤ) → fewer m 32 + empty_places (32 - fewer m 32) n ≤ 32
product_places m n = let a = at_most_word m in let b = empty_at_most (32 - fewer m 32) n in omega arith

pub places_fit : (m p t : ℕ) (n : ℤ) → p ≡ fewer m 32 → t ≡ empty_places (32 - p) n → Fits w32 (p + t)
places_fit m p t n e f =
    let g : t ≡ empty_places (32 - fewer m 32) n = f ∙ ap (λ k. empty_places (32 - k) n) e in
    let h = product_places m n in
    omega (arith, e, g)
