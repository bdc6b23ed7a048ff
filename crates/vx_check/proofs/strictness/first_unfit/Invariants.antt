use Rattle.std.proofs.Common.{◌<◌, ℕ}
use Rattle.vx_check.specs.Checked.{IsUnfit}
use Rattle.vx_check.proofs.strictness.first_unfit.Given as goal

abbrev pub invariant-places : goal.invariant-places
invariant-places l = (q : ℕ) → q < l.place → IsUnfit l.machine l.program q → ⊥
