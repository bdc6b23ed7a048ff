use Rattle.vx_sound.proofs.Turns.{all_more, all_not, all_whole}
use Rattle.vx_sound.proofs.named.are_general.Goals as goal

pub loop-value-preserved : goal.loop-value-preserved
loop-value-preserved c = all_more _ c.args.values.now c.loop-value.value-index _ c.is_general.result c.loop-value-test.true c.loop-value.invariant c.is_general.ensures c.if-not-is_general.false

pub returns-then-not-is_general : goal.returns-then-not-is_general
returns-then-not-is_general c = all_not _ c.args.values.now c.loop-value.value-index _ c.is_general.result c.loop-value-test.true c.is_general.ensures c.if-not-is_general.true

pub returns : goal.returns
returns c = all_whole _ c.args.values.now c.loop-value.value-index c.loop-value-test.false c.loop-value.invariant
