-- A product and a sum that wrap one after the other are their whole numbers, wrapped once.
use Rattle.std.proofs.Common.{◌≡◌, ℕ, ◌+◌, ◌*◌, ◌%◌, ◌^◌}
use Rattle.std.proofs.Math.Nat.{mod-add-mod}

pub wrapped : (x f a : ℕ) → ((x * f) % 2 ^ 64 + a) % 2 ^ 64 ≡ (x * f + a) % 2 ^ 64
wrapped x f a = mod-add-mod (x * f) (2 ^ 64) a
