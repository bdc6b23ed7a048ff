use Rattle.vx_sound.proofs.Turns.{all_more, all_not, all_whole}
use Rattle.vx_sound.proofs.named.are_operands.Goals as goal

pub loop-operand-preserved : goal.loop-operand-preserved
loop-operand-preserved c = all_more _ c.args.operands.now c.loop-operand.operand-index _ c.is_operand.result c.loop-operand-test.true c.loop-operand.invariant c.is_operand.ensures c.if-not-is_operand.false

pub returns-then-not-is_operand : goal.returns-then-not-is_operand
returns-then-not-is_operand c = all_not _ c.args.operands.now c.loop-operand.operand-index _ c.is_operand.result c.loop-operand-test.true c.is_operand.ensures c.if-not-is_operand.true

pub returns : goal.returns
returns c = all_whole _ c.args.operands.now c.loop-operand.operand-index c.loop-operand-test.false c.loop-operand.invariant
