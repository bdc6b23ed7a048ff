use Rattle.std.proofs.Common.{length}
use Rattle.vx_regs.proofs.touches.+push_laid_reads.Given as goal

abbrev pub decreases-push_laid_reads : goal.decreases-push_laid_reads
decreases-push_laid_reads l = length l.items.now
