use Rattle.std.proofs.Common.{length}
use Rattle.vx_plannable.proofs.plannable.+ascend.Given as goal

abbrev pub decreases-ascend : goal.decreases-ascend
decreases-ascend l = length l.joins.now
