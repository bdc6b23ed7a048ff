-- Numbers of a width fit it.
use Rattle.std.proofs.Common.{◌≡◌, ◌<◌, ◌^◌, ℕ, ℤ, pos, negsuc, true, arith, w32, FitsSigned}
use Rattle.std.proofs.lemmas.Bool.{le-leb}
use Rattle.vx_isa.specs.Range.{fits_signed, fits_unsigned}

pub signed_in_range : (z : ℤ) → FitsSigned w32 z → fits_signed z ≡ true
signed_in_range (pos n) f = let h : n < 2 ^ 31 = f.sfits in le-leb n 2147483647 (omega arith)
signed_in_range (negsuc n) f = let h : n < 2 ^ 31 = f.sfits in le-leb n 2147483647 (omega arith)

pub unsigned_in_range : (n : ℕ) → n < 2 ^ 32 → fits_unsigned n ≡ true
unsigned_in_range n h = le-leb n 4294967295 (omega arith)
