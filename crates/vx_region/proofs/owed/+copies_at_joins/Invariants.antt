use Rattle.std.proofs.Common.{length}
use Rattle.vx_region.proofs.owed.+copies_at_joins.Given as goal

abbrev pub decreases-copies_at_joins : goal.decreases-copies_at_joins
decreases-copies_at_joins l = length l.joins.now
