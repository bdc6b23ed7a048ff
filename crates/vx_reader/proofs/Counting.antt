-- The value of digits, one digit more.
use Rattle.std.proofs.Common.{◌≡◌, ℕ, ◌+◌, ◌-◌, ◌*◌, ◌%◌, ◌<◌, ◌≤◌, inl, inr, List, [], ◌∷◌, ◌++◌, refl, ap, arith}
use Rattle.vx_reader.specs.Steps.{Counts, value_from}

pub value_from-append : (n : ℕ) (xs : List ℕ) (c : ℕ) → value_from n (xs ++ c ∷ []) ≡ 10 * value_from n xs + (c - 48)
value_from-append n [] c = refl
value_from-append n (x ∷ xs) c = value_from-append (10 * n + (x - 48)) xs c

pub counts_short : (n x d : ℕ) → 10 * n + d < 4294967296 → Counts n x → Counts (10 * n + d) (10 * x + d)
counts_short n x d lt (small, inl e) = (omega arith, inl (ap (λ k. 10 * k + d) e))
counts_short n x d lt (small, inr far) = absurd (omega (arith, far.0))

pub counts_long : (n x d : ℕ) → 4294967296 ≤ 10 * n + d → Counts n x → Counts (4294967296 + (10 * n + d) % 4) (10 * x + d)
counts_long n x d le (small, inl e) = (omega arith, inr (omega arith, omega (arith, e), omega (arith, e)))
counts_long n x d le (small, inr far) = (omega arith, inr (omega arith, omega (arith, far.1), omega (arith, far.2)))
