use Rattle.vx_check.specs.InFlight.{AreDue, TellWithin}
use Rattle.vx_check.proofs.rounds.flights_of.Given as goal

abbrev pub invariant-rounds : goal.invariant-rounds
invariant-rounds l = record { due : AreDue l.machine l.program l.flights.at.items l.flights.anywhere; tells : TellWithin l.machine l.program l.counter l.flights.at.items l.flights.anywhere }
