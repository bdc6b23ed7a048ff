use Rattle.std.proofs.Common.{length}
use Rattle.vx_select.proofs.both_sides.+takes.Given as goal

abbrev pub decreases-takes : goal.decreases-takes
decreases-takes l = length l.values.now
