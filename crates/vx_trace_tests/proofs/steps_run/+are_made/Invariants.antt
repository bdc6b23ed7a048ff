use Rattle.std.proofs.Common.{length}
use Rattle.vx_trace_tests.proofs.steps_run.+are_made.Given as goal

abbrev pub decreases-are_made : goal.decreases-are_made
decreases-are_made l = length l.made.now
