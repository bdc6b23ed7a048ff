use Rattle.std.specs.Prelude.{length}
use Rattle.vx_slots.proofs.transfers.+in_flight.Given as goal

abbrev pub decreases-in_flight : goal.decreases-in_flight
decreases-in_flight l = length l.words.now
