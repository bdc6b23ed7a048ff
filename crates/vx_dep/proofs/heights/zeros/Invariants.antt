-- all so far are 0
use Rattle.std.proofs.Common.{◌-◌, ◌≤◌, length}
use Rattle.vx_dep.specs.Heights.{AreZero}
use Rattle.vx_dep.proofs.heights.zeros.Given as goal

abbrev pub invariant-loop-zeros : goal.invariant-loop-zeros
invariant-loop-zeros l = AreZero (length l.zeros.items) l.zeros.items × (length l.zeros.items ≤ l.fn.count)

abbrev pub decreases-loop-zeros : goal.decreases-loop-zeros
decreases-loop-zeros l = l.fn.count - length l.zeros.items
