use Rattle.std.proofs.Common.{length}
use Rattle.vx_plan_tests.proofs.accesses.+are_ordered.Given as goal

abbrev pub decreases-are_ordered : goal.decreases-are_ordered
decreases-are_ordered l = length l.terms.now
