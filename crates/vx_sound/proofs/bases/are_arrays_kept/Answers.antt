use Rattle.vx_sound.proofs.Turns.{all_more, all_not, all_whole}
use Rattle.vx_sound.proofs.bases.are_arrays_kept.Goals as goal

pub loop-array-preserved : goal.loop-array-preserved
loop-array-preserved c = all_more _ c.args.arrays.now c.loop-array.array-index _ c.is_array_kept.result c.loop-array-test.true c.loop-array.invariant c.is_array_kept.ensures c.if-not-is_array_kept.false

pub returns-then-not-is_array_kept : goal.returns-then-not-is_array_kept
returns-then-not-is_array_kept c = all_not _ c.args.arrays.now c.loop-array.array-index _ c.is_array_kept.result c.loop-array-test.true c.is_array_kept.ensures c.if-not-is_array_kept.true

pub returns : goal.returns
returns c = all_whole _ c.args.arrays.now c.loop-array.array-index c.loop-array-test.false c.loop-array.invariant
