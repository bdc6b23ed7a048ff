-- What the side of a split says on which two numbers are not equal, on worked rows.
use Rattle.std.proofs.Common.{◌≡◌, true, false, ℤ, pos, negsuc, [], ◌∷◌, List, Some, None, refl}
use Rattle.vx_base.specs.declared.arithmetic.Compare.TheVariants.{Eq, Ne, Ltu}
use Rattle.vx_base.specs.declared.arithmetic.Code.TheVariants.{ToBranch}
use Rattle.vx_flow.specs.declared.graph.Operand.TheVariants.{Held, Number}
use Rattle.vx_claims.specs.declared.intervals.Interval.{Interval}
use Rattle.vx_claims.specs.declared.fact.Fact.{Fact}
use Rattle.vx_claims.specs.declared.fact.Fact.TheVariants.{Between, Equals}
use Rattle.vx_claims.specs.Facts.{full, range, left_within, right_within, on_side, decided}

abbrev from_to : ℤ → ℤ → Interval
from_to a b = record { low = a; high = b }

abbrev only : ℤ → Interval
only n = from_to n n

-- at the upper end, at the lower one, and between them
highest : left_within Ne (from_to (pos 0) (pos 6)) (only (pos 6)) ≡ from_to (pos 0) (pos 5)
highest = refl

lowest : left_within Ne (from_to (negsuc 2) (pos 4)) (only (negsuc 2)) ≡ from_to (negsuc 1) (pos 4)
lowest = refl

inner : left_within Ne (from_to (pos 0) (pos 6)) (only (pos 3)) ≡ from_to (pos 0) (pos 6)
inner = refl

-- the last number but one, and the last: on that side nothing goes on
last_but_one : left_within Ne (from_to (pos 5) (pos 6)) (only (pos 5)) ≡ only (pos 6)
last_but_one = refl

last : left_within Ne (only (pos 6)) (only (pos 6)) ≡ only (pos 6)
last = refl

-- of every number the least goes
not_least : left_within Ne full (only (negsuc 2147483647)) ≡ from_to (negsuc 2147483646) (pos 2147483647)
not_least = refl

-- an operand that may be one of two numbers says nothing
either : left_within Ne (from_to (pos 0) (pos 6)) (from_to (pos 5) (pos 6)) ≡ from_to (pos 0) (pos 6)
either = refl

-- the same of the right operand
right_highest : right_within Ne (only (pos 6)) (from_to (pos 0) (pos 6)) ≡ from_to (pos 0) (pos 5)
right_highest = refl

-- value 0 is a row from 0 to 6, and value 1 holds whether it is 6: where it is not, it passes a check against 6
abbrev row_is_last : List Fact
row_is_last = Equals 1 (ToBranch Eq) (Held 0) (Number (pos 6)) ∷ Between 0 (from_to (pos 0) (pos 6)) ∷ []

below_last : range (on_side row_is_last false 1) 0 ≡ from_to (pos 0) (pos 5)
below_last = refl

is_last : range (on_side row_is_last true 1) 0 ≡ only (pos 6)
is_last = refl

passes : decided (Equals 2 (ToBranch Ltu) (Held 0) (Number (pos 6)) ∷ on_side row_is_last false 1) 2 ≡ Some true
passes = refl

open_before : decided (Equals 2 (ToBranch Ltu) (Held 0) (Number (pos 6)) ∷ row_is_last) 2 ≡ None
open_before = refl
