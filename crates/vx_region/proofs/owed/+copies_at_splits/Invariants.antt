use Rattle.std.proofs.Common.{length}
use Rattle.vx_region.proofs.owed.+copies_at_splits.Given as goal

abbrev pub decreases-copies_at_splits : goal.decreases-copies_at_splits
decreases-copies_at_splits l = length l.splits.now
