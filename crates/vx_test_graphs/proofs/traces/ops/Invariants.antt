use Rattle.std.proofs.Common.{◌≡◌, take, map}
use Rattle.vx_test_graphs.specs.Traces.{trace_op}
use Rattle.vx_test_graphs.proofs.traces.ops.Given as goal

abbrev pub invariant-loop-step : goal.invariant-loop-step
invariant-loop-step l = l.list ≡ map trace_op (take l.step-index l.steps)
