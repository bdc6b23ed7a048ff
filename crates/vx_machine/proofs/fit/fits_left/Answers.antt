use Rattle.vx_machine.proofs.LeftSteps.{one_more, one_over}
use Rattle.vx_machine.specs.Left.{need_of}
use Rattle.vx_machine.proofs.fit.fits_left.Goals as goal

pub loop-op-preserved : goal.loop-op-preserved
loop-op-preserved c =
    one_more (need_of c.args.cluster) c.loop-op.left c.need_of-need.result c.less-left.result c.args.ops.now c.loop-op.op-index _ c.covers.result _ c.loop-op-test.true c.loop-op.invariant c.need_of-need.ensures c.covers.ensures c.if-not-covers.false c.less-left.ensures

pub returns-then-not-covers : goal.returns-then-not-covers
returns-then-not-covers c =
    one_over (need_of c.args.cluster) c.loop-op.left c.need_of-need.result c.args.ops.now c.loop-op.op-index _ c.covers.result _ c.loop-op-test.true c.loop-op.invariant c.need_of-need.ensures c.covers.ensures c.if-not-covers.true
