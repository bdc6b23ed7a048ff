use Rattle.vx_sound.proofs.Turns.{all_more, all_not, all_whole}
use Rattle.vx_sound.proofs.places.are_parameters_shown.Goals as goal

pub loop-value-preserved : goal.loop-value-preserved
loop-value-preserved c = all_more _ c.args.values.now c.loop-value.value-index _ c.is_parameter_shown.result c.loop-value-test.true c.loop-value.invariant c.is_parameter_shown.ensures c.if-not-is_parameter_shown.false

pub returns-then-not-is_parameter_shown : goal.returns-then-not-is_parameter_shown
returns-then-not-is_parameter_shown c = all_not _ c.args.values.now c.loop-value.value-index _ c.is_parameter_shown.result c.loop-value-test.true c.is_parameter_shown.ensures c.if-not-is_parameter_shown.true

pub returns : goal.returns
returns c = all_whole _ c.args.values.now c.loop-value.value-index c.loop-value-test.false c.loop-value.invariant
