use Rattle.vx_sound.proofs.Turns.{all_more, all_not, all_whole}
use Rattle.vx_sound.proofs.program_names.are_no_globals.Goals as goal

pub loop-array-preserved : goal.loop-array-preserved
loop-array-preserved c = all_more _ c.args.arrays.now c.loop-array.array-index _ c.is_no_global.result c.loop-array-test.true c.loop-array.invariant c.is_no_global.ensures c.if-not-is_no_global.false

pub returns-then-not-is_no_global : goal.returns-then-not-is_no_global
returns-then-not-is_no_global c = all_not _ c.args.arrays.now c.loop-array.array-index _ c.is_no_global.result c.loop-array-test.true c.is_no_global.ensures c.if-not-is_no_global.true

pub returns : goal.returns
returns c = all_whole _ c.args.arrays.now c.loop-array.array-index c.loop-array-test.false c.loop-array.invariant
