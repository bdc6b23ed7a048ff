use Rattle.vx_check.specs.InFlight.{IsFilled}
use Rattle.vx_check.proofs.reached.filled.Given as goal

abbrev pub invariant-places : goal.invariant-places
invariant-places l = IsFilled l.counter l.mark l.row.items
