use Rattle.std.proofs.Common.{ap}
use Rattle.std.specs.Prelude.{not}
use Rattle.vx_sound.proofs.Turns.{all_more, all_not, all_whole}
use Rattle.vx_sound.proofs.soundness.are_not_held.Goals as goal

pub loop-operand-preserved : goal.loop-operand-preserved
loop-operand-preserved c = all_more _ c.args.operands.now c.loop-operand.operand-index _ (not c.is_value.result) c.loop-operand-test.true c.loop-operand.invariant (ap not c.is_value.ensures) (ap not c.if-is_value.false)

pub returns-then-is_value : goal.returns-then-is_value
returns-then-is_value c = all_not _ c.args.operands.now c.loop-operand.operand-index _ (not c.is_value.result) c.loop-operand-test.true (ap not c.is_value.ensures) (ap not c.if-is_value.true)

pub returns : goal.returns
returns c = all_whole _ c.args.operands.now c.loop-operand.operand-index c.loop-operand-test.false c.loop-operand.invariant
