use Rattle.vx_sound.proofs.Turns.{all_more, all_not, all_whole}
use Rattle.vx_sound.proofs.places.are_shown_arrays.Goals as goal

pub loop-array-preserved : goal.loop-array-preserved
loop-array-preserved c = all_more _ c.args.arrays.now c.loop-array.array-index _ c.is_shown_array.result c.loop-array-test.true c.loop-array.invariant c.is_shown_array.ensures c.if-not-is_shown_array.false

pub returns-then-not-is_shown_array : goal.returns-then-not-is_shown_array
returns-then-not-is_shown_array c = all_not _ c.args.arrays.now c.loop-array.array-index _ c.is_shown_array.result c.loop-array-test.true c.is_shown_array.ensures c.if-not-is_shown_array.true

pub returns : goal.returns
returns c = all_whole _ c.args.arrays.now c.loop-array.array-index c.loop-array-test.false c.loop-array.invariant
