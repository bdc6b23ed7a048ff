use Rattle.std.specs.Prelude.{length}
use Rattle.vx_calls.proofs.pauses.+flight.Given as goal

abbrev pub decreases-flight : goal.decreases-flight
decreases-flight l = length l.words.now
