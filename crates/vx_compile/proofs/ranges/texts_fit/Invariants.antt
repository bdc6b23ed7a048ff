-- What is left is all that can be wrong.
use Rattle.std.proofs.Common.{◌≡◌, true, length, nat_lt}
use Rattle.std.specs.List.{list_all}
use Rattle.vx_compile.proofs.ranges.texts_fit.Given as goal

abbrev pub invariant-look : goal.invariant-look
invariant-look l = list_all (list_all (λ b. nat_lt b 256)) l.rest ≡ true → list_all (list_all (λ b. nat_lt b 256)) l.fn.texts ≡ true

abbrev pub decreases-look : goal.decreases-look
decreases-look l = length l.rest
