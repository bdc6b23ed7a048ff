-- Sums that stop at the greatest number of 64 bits.
use Rattle.std.proofs.Common.{◌≡◌, ◌≢◌, ℕ, ◌+◌, ◌<◌, ◌≤◌, ◌^◌, ap, ◌∙◌, arith}
use Rattle.vx_limits.specs.Capped.{capped}

pub capped_sum : (a b : ℕ) → capped (capped a + capped b) ≡ capped (a + b)
capped_sum a b = omega arith

pub capped_one : (x a : ℕ) → x ≡ capped a → capped (1 + x) ≡ capped (1 + a)
capped_one x a e = omega (arith, e)

pub capped_two : (x y a b : ℕ) → x ≡ capped a → y ≡ capped b → capped (capped (1 + x) + y) ≡ capped (1 + a + b)
capped_two x y a b e f = omega (arith, e, f)

pub capped_three : (x y z a b c : ℕ) → x ≡ capped a → y ≡ capped b → z ≡ capped c → capped (capped (capped (1 + x) + y) + z) ≡ capped (1 + a + b + c)
capped_three x y z a b c e f g = omega (arith, e, f, g)

pub capped_four : (x y z w a b c d : ℕ) → x ≡ capped a → y ≡ capped b → z ≡ capped c → w ≡ capped d → capped (capped (capped (capped (1 + x) + y) + z) + w) ≡ capped (1 + a + b + c + d)
capped_four x y z w a b c d e f g h =
    let k = capped_three x y z a b c e f g in
    ap (λ (n : ℕ). capped (n + w)) k ∙ ap (λ (n : ℕ). capped (capped (1 + a + b + c) + n)) h ∙ capped_sum (1 + a + b + c) d

pub capped_pair : (x y a b : ℕ) → x ≡ capped a → y ≡ capped b → capped (x + y) ≡ capped (a + b)
capped_pair x y a b e f = omega (arith, e, f)

pub capped_tail : (x y b : ℕ) → y ≡ capped b → capped (x + y) ≡ capped (x + b)
capped_tail x y b f = omega (arith, f)

pub uncapped : (x a : ℕ) → x ≡ capped a → a < 2 ^ 32 → x ≡ a
uncapped x a e h = omega (arith, e, h)

-- a count within a limit, and one that was not stopped

pub within_limit : (x a most : ℕ) → x ≡ capped a → x ≤ most → most < 18446744073709551615 → a ≤ most
within_limit x a most e h k = omega (arith, e, h, k)

pub over_limit : (x a : ℕ) → x ≡ capped a → x ≢ 18446744073709551615 → x ≡ a
over_limit x a e n = omega (arith, e, n)
