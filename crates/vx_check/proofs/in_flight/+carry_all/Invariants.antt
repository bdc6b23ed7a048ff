use Rattle.std.proofs.Common.{length}
use Rattle.vx_check.proofs.in_flight.+carry_all.Given as goal

abbrev pub decreases-carry_all : goal.decreases-carry_all
decreases-carry_all l = length l.row.now
