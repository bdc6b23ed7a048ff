use Rattle.vx_sound.proofs.Turns.{any_more, any_here, any_whole}
use Rattle.vx_sound.proofs.arguments.ops_make.Goals as goal

pub loop-op-preserved : goal.loop-op-preserved
loop-op-preserved c = any_more _ c.args.ops.now c.loop-op.op-index _ c.makes_base.result c.loop-op-test.true c.loop-op.invariant c.makes_base.ensures c.if-makes_base.false

pub returns-then-makes_base : goal.returns-then-makes_base
returns-then-makes_base c = any_here _ c.args.ops.now c.loop-op.op-index _ c.makes_base.result c.loop-op-test.true c.makes_base.ensures c.if-makes_base.true

pub returns : goal.returns
returns c = any_whole _ c.args.ops.now c.loop-op.op-index c.loop-op-test.false c.loop-op.invariant
