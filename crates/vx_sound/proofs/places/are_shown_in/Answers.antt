use Rattle.vx_sound.proofs.Turns.{all_more, all_not, all_whole}
use Rattle.vx_sound.proofs.places.are_shown_in.Goals as goal

pub loop-op-preserved : goal.loop-op-preserved
loop-op-preserved c = all_more _ c.args.ops.now c.loop-op.op-index _ c.is_shown_in.result c.loop-op-test.true c.loop-op.invariant c.is_shown_in.ensures c.if-not-is_shown_in.false

pub returns-then-not-is_shown_in : goal.returns-then-not-is_shown_in
returns-then-not-is_shown_in c = all_not _ c.args.ops.now c.loop-op.op-index _ c.is_shown_in.result c.loop-op-test.true c.is_shown_in.ensures c.if-not-is_shown_in.true

pub returns : goal.returns
returns c = all_whole _ c.args.ops.now c.loop-op.op-index c.loop-op-test.false c.loop-op.invariant
