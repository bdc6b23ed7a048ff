use Rattle.vx_sound.proofs.Turns.{any_more, any_here, any_whole}
use Rattle.vx_sound.proofs.arguments.have_base.Goals as goal

pub loop-array-preserved : goal.loop-array-preserved
loop-array-preserved c = any_more _ c.args.arrays.now c.loop-array.array-index _ c.is_that.result c.loop-array-test.true c.loop-array.invariant c.is_that.ensures c.if-is_that.false

pub returns-then-is_that : goal.returns-then-is_that
returns-then-is_that c = any_here _ c.args.arrays.now c.loop-array.array-index _ c.is_that.result c.loop-array-test.true c.is_that.ensures c.if-is_that.true

pub returns : goal.returns
returns c = any_whole _ c.args.arrays.now c.loop-array.array-index c.loop-array-test.false c.loop-array.invariant
