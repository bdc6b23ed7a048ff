-- what is left to compare is equal exactly where the whole is
use Rattle.std.proofs.Common.{◌≡◌, ◌+◌, length}
use Rattle.vx_linear.specs.Linear.{same_terms}
use Rattle.vx_linear.proofs.linear.have_equal_terms.Given as goal

abbrev pub invariant-compare : goal.invariant-compare
invariant-compare l = same_terms l.fn.left l.fn.right ≡ same_terms l.to_left l.to_right

abbrev pub decreases-compare : goal.decreases-compare
decreases-compare l = length l.to_left + length l.to_right
