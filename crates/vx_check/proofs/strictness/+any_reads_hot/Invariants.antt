use Rattle.std.proofs.Common.{length}
use Rattle.vx_check.proofs.strictness.+any_reads_hot.Given as goal

abbrev pub decreases-any_reads_hot : goal.decreases-any_reads_hot
decreases-any_reads_hot l = length l.ops.now
