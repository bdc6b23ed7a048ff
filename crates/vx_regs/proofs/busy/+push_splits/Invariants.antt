use Rattle.std.proofs.Common.{length}
use Rattle.vx_regs.proofs.busy.+push_splits.Given as goal

abbrev pub decreases-push_splits : goal.decreases-push_splits
decreases-push_splits l = length l.items.now
