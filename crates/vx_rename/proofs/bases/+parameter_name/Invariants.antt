use Rattle.std.proofs.Common.{length}
use Rattle.vx_rename.proofs.bases.+parameter_name.Given as goal

abbrev pub decreases-parameter_name : goal.decreases-parameter_name
decreases-parameter_name l = length l.old.now
