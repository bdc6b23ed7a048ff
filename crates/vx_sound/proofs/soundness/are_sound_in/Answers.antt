use Rattle.vx_sound.proofs.Turns.{all_more, all_not, all_whole}
use Rattle.vx_sound.proofs.soundness.are_sound_in.Goals as goal

pub loop-op-preserved : goal.loop-op-preserved
loop-op-preserved c = all_more _ c.args.ops.now c.loop-op.op-index _ c.is_sound_in.result c.loop-op-test.true c.loop-op.invariant c.is_sound_in.ensures c.if-not-is_sound_in.false

pub returns-then-not-is_sound_in : goal.returns-then-not-is_sound_in
returns-then-not-is_sound_in c = all_not _ c.args.ops.now c.loop-op.op-index _ c.is_sound_in.result c.loop-op-test.true c.is_sound_in.ensures c.if-not-is_sound_in.true

pub returns : goal.returns
returns c = all_whole _ c.args.ops.now c.loop-op.op-index c.loop-op-test.false c.loop-op.invariant
