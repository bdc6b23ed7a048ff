use Rattle.std.proofs.Common.{length}
use Rattle.vx_select.proofs.written.+next_of.Given as goal

abbrev pub decreases-next_of : goal.decreases-next_of
decreases-next_of l = length l.ops.now
