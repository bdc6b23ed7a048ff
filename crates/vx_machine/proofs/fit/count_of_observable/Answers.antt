use Rattle.std.proofs.Common.{arith}
use Rattle.vx_machine.proofs.Counts.{count_within}
use Rattle.vx_machine.proofs.fit.count_of_observable.Goals as goal

pub overflow_add-count : goal.overflow_add-count
overflow_add-count c = omega (arith, count_within _ c.args.ops.now c.loop-op.op-index c.loop-op.count c.loop-op-test.true c.loop-op.invariant)
