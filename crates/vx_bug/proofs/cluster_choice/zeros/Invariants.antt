use Rattle.std.proofs.Common.{◌≤◌, ◌-◌, length}
use Rattle.vx_bug.proofs.cluster_choice.zeros.Given as goal

abbrev pub invariant-fill : goal.invariant-fill
invariant-fill l = length l.zeros.items ≤ l.many

abbrev pub decreases-fill : goal.decreases-fill
decreases-fill l = l.many - length l.zeros.items
