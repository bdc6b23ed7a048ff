use Rattle.std.proofs.Common.{length}
use Rattle.vx_rename.proofs.bases.+enters_as.Given as goal

abbrev pub decreases-enters_as : goal.decreases-enters_as
decreases-enters_as l = length l.old.now
