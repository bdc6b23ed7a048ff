use Rattle.std.proofs.Common.{length}
use Rattle.vx_check.proofs.in_flight.+add_all.Given as goal

abbrev pub decreases-add_all : goal.decreases-add_all
decreases-add_all l = length l.writes.now
