use Rattle.std.proofs.Common.{length}
use Rattle.vx_check.proofs.in_flight.+make_all.Given as goal

abbrev pub decreases-make_all : goal.decreases-make_all
decreases-make_all l = length l.ops.now
