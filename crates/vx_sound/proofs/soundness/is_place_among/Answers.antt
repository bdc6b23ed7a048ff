use Rattle.vx_sound.proofs.Turns.{any_more, any_here, any_whole}
use Rattle.vx_sound.proofs.soundness.is_place_among.Goals as goal

pub loop-op-preserved : goal.loop-op-preserved
loop-op-preserved c = any_more _ c.args.ops.now c.loop-op.op-index _ c.is_place_in.result c.loop-op-test.true c.loop-op.invariant c.is_place_in.ensures c.if-is_place_in.false

pub returns-then-is_place_in : goal.returns-then-is_place_in
returns-then-is_place_in c = any_here _ c.args.ops.now c.loop-op.op-index _ c.is_place_in.result c.loop-op-test.true c.is_place_in.ensures c.if-is_place_in.true

pub returns : goal.returns
returns c = any_whole _ c.args.ops.now c.loop-op.op-index c.loop-op-test.false c.loop-op.invariant
