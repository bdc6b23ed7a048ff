-- Odd numbers have an inverse modulo each power of 2.
use Rattle.std.proofs.Common.{◌≡◌, ◌⊎◌, inl, inr, ℕ, zero, suc, ◌+◌, ◌*◌, ◌/◌, ◌%◌, ◌^◌, refl, ◌∙◌, ap, arith, lit<}
use Rattle.std.proofs.lemmas.Nat.{div-add-mod', mod_below}

-- a number is even or odd
pub even_or_odd : (n : ℕ) → ((q : ℕ) × (n ≡ 2 * q)) ⊎ ((q : ℕ) × (n ≡ 2 * q + 1))
even_or_odd n = by (n % 2) refl
  where
    by : (r : ℕ) → n % 2 ≡ r → ((q : ℕ) × (n ≡ 2 * q)) ⊎ ((q : ℕ) × (n ≡ 2 * q + 1))
    by zero e = inl (n / 2, omega (arith, div-add-mod' n 2))
    by (suc zero) e = inr (n / 2, omega (arith, div-add-mod' n 2))
    by (suc (suc r)) e = absurd (omega (arith, mod_below n 2 (lit< tt)))

twice : (n : ℕ) → 2 ^ suc n ≡ 2 * 2 ^ n
twice n = omega arith

pub record Inverse (a n : ℕ) : Type 0 where
  pub inverse : ℕ
  pub rest : ℕ
  pub is : a * inverse ≡ rest * 2 ^ n + 1

-- an inverse modulo 2 ^ n, or 2 ^ n more, is one modulo 2 ^ (n + 1)
pub odd_inverse : (o n : ℕ) → Inverse (2 * o + 1) n
odd_inverse o zero = record { inverse = 1; rest = 2 * o; is = omega arith }
odd_inverse o (suc n) = by (odd_inverse o n)
  where
    by : Inverse (2 * o + 1) n → Inverse (2 * o + 1) (suc n)
    by i = on (even_or_odd i.rest)
      where
        on : ((q : ℕ) × (i.rest ≡ 2 * q)) ⊎ ((q : ℕ) × (i.rest ≡ 2 * q + 1)) → Inverse (2 * o + 1) (suc n)
        on (inl (q, e)) = record { inverse = i.inverse; rest = q; is = i.is ∙ ap (λ r. r * 2 ^ n + 1) e ∙ omega (arith, ap (λ p. q * p) (twice n)) }
        on (inr (q, e)) = record { inverse = i.inverse + 2 ^ n; rest = q + o + 1; is = omega (arith, i.is ∙ ap (λ r. r * 2 ^ n + 1) e, ap (λ p. (q + o + 1) * p) (twice n)) }
