use Rattle.std.proofs.Common.{◌<◌, ℕ}
use Rattle.vx_check.specs.InFlight.{IsHot}
use Rattle.vx_check.proofs.strictness.first_hot.Given as goal

abbrev pub invariant-places : goal.invariant-places
invariant-places l = (q : ℕ) → q < l.place → IsHot l.program l.flights.at.items l.flights.anywhere q → ⊥
