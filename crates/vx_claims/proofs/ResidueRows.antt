-- Low bits on worked rows: a counter that is a multiple of 4 below 48 at the head of a loop, and what four steps make of it.
use Rattle.std.proofs.Common.{◌≡◌, ℕ, true, ℤ, pos, negsuc, List, [], ◌∷◌, Some, None, refl}
use Rattle.std.specs.Int.{int_wrap}
use Rattle.vx_base.specs.Arithmetic.{sum_of, difference_of, product_of}
use Rattle.vx_base.specs.declared.arithmetic.Compare.TheVariants.{Lt}
use Rattle.vx_base.specs.declared.arithmetic.Code.TheVariants.{Add, ToBranch}
use Rattle.vx_flow.specs.declared.graph.Operand.TheVariants.{Held, Number}
use Rattle.vx_flow.specs.declared.graph.Op.TheVariants.{Compute}
use Rattle.vx_claims.specs.declared.intervals.Interval.{Interval}
use Rattle.vx_claims.specs.declared.residues.Residue.{Residue}
use Rattle.vx_claims.specs.declared.fact.Fact.{Fact}
use Rattle.vx_claims.specs.declared.fact.Fact.TheVariants.{Between, Congruent, Equals}
use Rattle.vx_claims.specs.Residues.{exactly, sum_residue, difference_residue, times_residue, joined}
use Rattle.vx_claims.specs.Facts.{full, sum_within, rounded, after, on_side, range_of, decided}

abbrev from_to : ℤ → ℤ → Interval
from_to a b = record { low = a; high = b }

abbrev modulo : ℕ → ℤ → Residue
modulo places rest = record { places = places; rest = rest }

abbrev at_head : List Fact
at_head = Congruent 0 (modulo 2 (pos 0)) ∷ Between 0 (from_to (pos 0) (pos 44)) ∷ []

-- behind one, three and four steps
abbrev behind : ℤ → List Fact
behind n = after at_head (Compute Add 0 (Held 0) (Number n))

one_step : behind (pos 1) ≡ Between 0 (from_to (pos 1) (pos 45)) ∷ Congruent 0 (modulo 2 (pos 1)) ∷ []
unfolding sum_of difference_of int_wrap
one_step = refl

abbrev tested : ℤ → List Fact
tested n = Equals 1 (ToBranch Lt) (Held 0) (Number (pos 48)) ∷ behind n

goes_on : decided (tested (pos 1)) 1 ≡ Some true
unfolding sum_of difference_of int_wrap
goes_on = refl

goes_on_still : decided (tested (pos 3)) 1 ≡ Some true
unfolding sum_of difference_of int_wrap
goes_on_still = refl

may_end : decided (tested (pos 4)) 1 ≡ None
unfolding sum_of difference_of int_wrap
may_end = refl

-- what the test then says of the next turn
next_turn : range_of (on_side (tested (pos 4)) true 1) (Held 0) ≡ from_to (pos 4) (pos 44)
unfolding sum_of difference_of int_wrap
next_turn = refl

-- a bound is rounded to the numbers that there are
below : rounded (modulo 2 (pos 1)) (from_to (pos 0) (pos 47)) ≡ from_to (pos 1) (pos 45)
unfolding difference_of int_wrap
below = refl

-- times 3, and shifted by 2 places
thrice : times_residue (modulo 2 (pos 0)) (pos 3) ≡ modulo 2 (pos 0)
unfolding product_of int_wrap
thrice = refl

shifted : times_residue (modulo 2 (pos 1)) (pos 4) ≡ modulo 4 (pos 4)
unfolding product_of int_wrap
shifted = refl

less : difference_residue (modulo 2 (pos 0)) (exactly (pos 3)) ≡ modulo 2 (negsuc 2)
unfolding difference_of int_wrap
less = refl

-- multiples of 4 and what lies 2 above them are even
either : joined (modulo 2 (pos 0)) (modulo 2 (pos 2)) ≡ modulo 1 (pos 0)
unfolding difference_of int_wrap
either = refl

-- a sum that wraps has no bounds, and its low bits are known still
wraps : sum_residue (modulo 2 (pos 2147483647)) (exactly (pos 1)) ≡ modulo 2 (negsuc 2147483647)
unfolding sum_of int_wrap
wraps = refl

unbounded : sum_within (from_to (pos 3) (pos 2147483647)) (from_to (pos 1) (pos 1)) ≡ full
unbounded = refl
