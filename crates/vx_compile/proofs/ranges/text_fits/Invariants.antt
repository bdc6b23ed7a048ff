-- What is left is all that can be wrong.
use Rattle.std.proofs.Common.{◌≡◌, true, length, nat_lt}
use Rattle.std.specs.List.{list_all}
use Rattle.vx_compile.proofs.ranges.text_fits.Given as goal

abbrev pub invariant-look : goal.invariant-look
invariant-look l = list_all (λ b. nat_lt b 256) l.rest ≡ true → list_all (λ b. nat_lt b 256) l.fn.bytes ≡ true

abbrev pub decreases-look : goal.decreases-look
decreases-look l = length l.rest
