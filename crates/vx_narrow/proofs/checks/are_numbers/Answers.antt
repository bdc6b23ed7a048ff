use Rattle.vx_narrow.specs.Checking.{has_number}
use Rattle.vx_narrow.proofs.Turns.{passed_more, not_passed}
use Rattle.vx_narrow.proofs.checks.are_numbers.Goals as goal

pub loop-operand-preserved : goal.loop-operand-preserved
loop-operand-preserved c = passed_more has_number c.args.operands.now c.loop-operand.operand-index _ c.has_number.result c.loop-operand-test.true c.loop-operand.invariant c.has_number.ensures c.if-not-has_number.false

pub returns-then-not-has_number : goal.returns-then-not-has_number
returns-then-not-has_number c = not_passed has_number c.args.operands.now c.loop-operand.operand-index _ c.has_number.result c.loop-operand-test.true c.has_number.ensures c.if-not-has_number.true
