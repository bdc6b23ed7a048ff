use Rattle.std.proofs.Common.{length}
use Rattle.vx_trace_tests.proofs.steps_run.+step_on.Given as goal

abbrev pub decreases-step_on : goal.decreases-step_on
decreases-step_on l = length l.plans.now
