use Rattle.vx_sound.proofs.Turns.{distinct_more, distinct_not, distinct_whole}
use Rattle.vx_sound.proofs.program_names.are_distinct.Goals as goal

pub loop-place-preserved : goal.loop-place-preserved
loop-place-preserved c = distinct_more c.args.values.now c.loop-place.place _ c.are_others.result c.loop-place-test.true c.loop-place.invariant c.are_others.ensures c.if-not-are_others.false

pub returns-then-not-are_others : goal.returns-then-not-are_others
returns-then-not-are_others c = distinct_not c.args.values.now c.loop-place.place _ c.are_others.result c.loop-place-test.true c.loop-place.invariant c.are_others.ensures c.if-not-are_others.true

pub returns : goal.returns
returns c = distinct_whole c.args.values.now c.loop-place.place c.loop-place-test.false c.loop-place.invariant
