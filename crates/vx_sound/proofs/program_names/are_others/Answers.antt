use Rattle.vx_sound.proofs.Turns.{all_whole, others_more, others_not}
use Rattle.vx_sound.proofs.program_names.are_others.Goals as goal

pub loop-other-preserved : goal.loop-other-preserved
loop-other-preserved c = others_more c.args.value c.args.values.now c.loop-other.other-index _ c.loop-other-test.true c.loop-other.invariant c.if-other-value.false

pub returns-then-other-value : goal.returns-then-other-value
returns-then-other-value c = others_not c.args.value c.args.values.now c.loop-other.other-index _ c.loop-other-test.true c.if-other-value.true

pub returns : goal.returns
returns c = all_whole _ c.args.values.now c.loop-other.other-index c.loop-other-test.false c.loop-other.invariant
