use Rattle.vx_sound.proofs.Turns.{all_more, all_not, all_whole}
use Rattle.vx_sound.proofs.bases.keep_base.Goals as goal

pub loop-op-preserved : goal.loop-op-preserved
loop-op-preserved c = all_more _ c.args.ops.now c.loop-op.op-index _ c.keeps_base.result c.loop-op-test.true c.loop-op.invariant c.keeps_base.ensures c.if-not-keeps_base.false

pub returns-then-not-keeps_base : goal.returns-then-not-keeps_base
returns-then-not-keeps_base c = all_not _ c.args.ops.now c.loop-op.op-index _ c.keeps_base.result c.loop-op-test.true c.keeps_base.ensures c.if-not-keeps_base.true

pub returns : goal.returns
returns c = all_whole _ c.args.ops.now c.loop-op.op-index c.loop-op-test.false c.loop-op.invariant
