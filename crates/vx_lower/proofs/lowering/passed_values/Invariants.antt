use Rattle.std.proofs.Common.{◌≡◌, ◌+◌, ◌*◌, ◌≤◌, ◌++◌, drop}
use Rattle.vx_lower.specs.Lowered.{values_for}
use Rattle.vx_lower.proofs.lowering.passed_values.Given as goal

abbrev pub invariant-loop-take : goal.invariant-loop-take
invariant-loop-take l = (l.values ++ values_for l.scalar l.handed (drop l.take-index l.fn.takes) ≡ values_for 0 l.fn.first l.fn.takes) × (l.scalar ≤ l.take-index) × (l.handed ≤ l.fn.first + 2 * l.take-index)
