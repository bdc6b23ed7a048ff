-- The greatest of a list, one item at a time.
use Rattle.std.proofs.Common.{◌≡◌, ℕ, max, arith}

pub max_step : (a b c : ℕ) → max (max a b) c ≡ max a (max b c)
max_step a b c = omega arith

pub max_zero : (a : ℕ) → max 0 a ≡ a
max_zero a = omega arith

pub max_none : (a : ℕ) → max a 0 ≡ a
max_none a = omega arith
