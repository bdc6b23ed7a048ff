use Rattle.vx_check.specs.InFlight.{AreDue}
use Rattle.vx_check.proofs.Passing.{PassedBelow}
use Rattle.vx_check.proofs.rounds.pass_all.Given as goal

abbrev pub invariant-places : goal.invariant-places
invariant-places l = record { due : AreDue l.machine l.program l.flights.at.items l.flights.anywhere; passed : PassedBelow l.machine l.program l.place l.initial.flights.at.items l.initial.flights.anywhere l.flights.at.items l.flights.anywhere }
