use Rattle.vx_flow.specs.Live.{touches_of}
use Rattle.vx_flow.proofs.Copying.{mapped_more}
use Rattle.vx_flow.proofs.liveness.push_ops.Goals as goal

pub loop-op-preserved : goal.loop-op-preserved
loop-op-preserved c = mapped_more touches_of c.args.ops.now c.args.touches.now c.loop-op.touches c.push_op.new.touches _ c.loop-op.op-index c.loop-op-test.true c.loop-op.invariant c.in_ok-push_op.ensures
