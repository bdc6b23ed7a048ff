use Rattle.vx_flow.specs.Effects.{value_in}
use Rattle.vx_flow.proofs.Copying.{read_more}
use Rattle.vx_flow.proofs.touched_values.touch_operands.Goals as goal

pub loop-operand-preserved : goal.loop-operand-preserved
loop-operand-preserved c = read_more value_in c.args.operands.now c.args.touches.now c.loop-operand.touches c.touch_operand.new.touches _ c.loop-operand.operand-index c.loop-operand-test.true c.loop-operand.invariant c.in_ok-touch_operand.ensures
