use Rattle.vx_flow.proofs.Copying.{mapped_more}
use Rattle.vx_mixed.specs.Routes.{op_touches}
use Rattle.vx_mixed.proofs.touches.push_ops.Goals as goal

pub loop-op-preserved : goal.loop-op-preserved
loop-op-preserved c =
    let so_far = c.loop-op.touches in
    mapped_more op_touches c.args.ops.now c.args.touches.now so_far c.push_word.new.touches _ c.loop-op.op-index c.loop-op-test.true c.loop-op.invariant c.in_ok-push_word.ensures
