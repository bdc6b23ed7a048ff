use Rattle.vx_sound.proofs.Turns.{any_whole, among_more, among_here}
use Rattle.vx_sound.proofs.bases.is_among.Goals as goal

pub loop-other-preserved : goal.loop-other-preserved
loop-other-preserved c = among_more c.args.value c.args.values.now c.loop-other.other-index _ c.loop-other-test.true c.loop-other.invariant c.if-other-value.false

pub returns-then-other-value : goal.returns-then-other-value
returns-then-other-value c = among_here c.args.value c.args.values.now c.loop-other.other-index _ c.loop-other-test.true c.if-other-value.true

pub returns : goal.returns
returns c = any_whole _ c.args.values.now c.loop-other.other-index c.loop-other-test.false c.loop-other.invariant
