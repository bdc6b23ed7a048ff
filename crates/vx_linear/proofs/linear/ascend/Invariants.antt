-- what is left ascends exactly where the whole does
use Rattle.std.proofs.Common.{◌≡◌, length}
use Rattle.vx_linear.specs.Ascending.{ascend}
use Rattle.vx_linear.proofs.linear.ascend.Given as goal

abbrev pub invariant-ascend : goal.invariant-ascend
invariant-ascend l = ascend l.fn.terms ≡ ascend l.rest

abbrev pub decreases-ascend : goal.decreases-ascend
decreases-ascend l = length l.rest
