use Rattle.std.specs.Prelude.{length}
use Rattle.vx_carry.proofs.carried_word.+slots_in_flight.Given as goal

abbrev pub decreases-slots_in_flight : goal.decreases-slots_in_flight
decreases-slots_in_flight l = length l.items.now
