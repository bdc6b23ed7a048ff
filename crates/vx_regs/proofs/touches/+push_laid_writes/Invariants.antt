use Rattle.std.proofs.Common.{length}
use Rattle.vx_regs.proofs.touches.+push_laid_writes.Given as goal

abbrev pub decreases-push_laid_writes : goal.decreases-push_laid_writes
decreases-push_laid_writes l = length l.items.now
