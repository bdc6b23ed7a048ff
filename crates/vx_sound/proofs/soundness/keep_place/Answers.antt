use Rattle.vx_sound.proofs.Turns.{all_more, all_not, all_whole}
use Rattle.vx_sound.proofs.soundness.keep_place.Goals as goal

pub loop-op-preserved : goal.loop-op-preserved
loop-op-preserved c = all_more _ c.args.ops.now c.loop-op.op-index _ c.keeps_place.result c.loop-op-test.true c.loop-op.invariant c.keeps_place.ensures c.if-not-keeps_place.false

pub returns-then-not-keeps_place : goal.returns-then-not-keeps_place
returns-then-not-keeps_place c = all_not _ c.args.ops.now c.loop-op.op-index _ c.keeps_place.result c.loop-op-test.true c.keeps_place.ensures c.if-not-keeps_place.true

pub returns : goal.returns
returns c = all_whole _ c.args.ops.now c.loop-op.op-index c.loop-op-test.false c.loop-op.invariant
