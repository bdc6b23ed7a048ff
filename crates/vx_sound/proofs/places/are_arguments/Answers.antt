use Rattle.vx_sound.proofs.Turns.{all_more, all_not, all_whole}
use Rattle.vx_sound.proofs.places.are_arguments.Goals as goal

pub loop-operand-preserved : goal.loop-operand-preserved
loop-operand-preserved c = all_more _ c.args.operands.now c.loop-operand.operand-index _ c.is_argument.result c.loop-operand-test.true c.loop-operand.invariant c.is_argument.ensures c.if-not-is_argument.false

pub returns-then-not-is_argument : goal.returns-then-not-is_argument
returns-then-not-is_argument c = all_not _ c.args.operands.now c.loop-operand.operand-index _ c.is_argument.result c.loop-operand-test.true c.is_argument.ensures c.if-not-is_argument.true

pub returns : goal.returns
returns c = all_whole _ c.args.operands.now c.loop-operand.operand-index c.loop-operand-test.false c.loop-operand.invariant
