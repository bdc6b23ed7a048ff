-- what is left to merge comes to the same power as the whole
use Rattle.std.proofs.Common.{ℕ, ◌+◌, ◌^◌, length}
use Rattle.vx_linear.specs.Steps.{IsStep, Steps}
use Rattle.vx_linear.proofs.difference.step_between.Given as goal

abbrev pub invariant-merge : goal.invariant-merge
invariant-merge l = IsStep l.step × ((g : ℕ) → Steps l.to_left l.to_right l.step g → Steps l.fn.left l.fn.right (2 ^ 30) g)

abbrev pub decreases-merge : goal.decreases-merge
decreases-merge l = length l.to_left + length l.to_right
