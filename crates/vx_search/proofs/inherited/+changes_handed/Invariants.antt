use Rattle.std.proofs.Common.{length}
use Rattle.vx_search.proofs.inherited.+changes_handed.Given as goal

abbrev pub decreases-changes_handed : goal.decreases-changes_handed
decreases-changes_handed l = length l.arrays.now
