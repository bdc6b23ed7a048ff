use Rattle.vx_sound.proofs.Turns.{all_more, all_not, all_whole}
use Rattle.vx_sound.proofs.program_names.are_texts_there.Goals as goal

pub loop-op-preserved : goal.loop-op-preserved
loop-op-preserved c = all_more _ c.args.ops.now c.loop-op.op-index _ c.is_text_there.result c.loop-op-test.true c.loop-op.invariant c.is_text_there.ensures c.if-not-is_text_there.false

pub returns-then-not-is_text_there : goal.returns-then-not-is_text_there
returns-then-not-is_text_there c = all_not _ c.args.ops.now c.loop-op.op-index _ c.is_text_there.result c.loop-op-test.true c.is_text_there.ensures c.if-not-is_text_there.true

pub returns : goal.returns
returns c = all_whole _ c.args.ops.now c.loop-op.op-index c.loop-op-test.false c.loop-op.invariant
