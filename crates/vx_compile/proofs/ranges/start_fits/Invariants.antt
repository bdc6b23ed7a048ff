-- What is left is all that can be wrong.
use Rattle.std.proofs.Common.{◌≡◌, true, length, ℕ, ℤ}
use Rattle.std.specs.List.{list_all}
use Rattle.vx_isa.specs.Range.{fits_signed}
use Rattle.vx_compile.proofs.ranges.start_fits.Given as goal

abbrev pub invariant-look : goal.invariant-look
invariant-look l = list_all (λ (e : ℕ × ℤ). fits_signed e.1) l.rest ≡ true → list_all (λ (e : ℕ × ℤ). fits_signed e.1) l.fn.start ≡ true

abbrev pub decreases-look : goal.decreases-look
decreases-look l = length l.rest
