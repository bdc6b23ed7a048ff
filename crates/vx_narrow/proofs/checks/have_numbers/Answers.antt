use Rattle.vx_narrow.specs.Checking.{has_numbers}
use Rattle.vx_narrow.proofs.Turns.{passed_more, not_passed}
use Rattle.vx_narrow.proofs.checks.have_numbers.Goals as goal

pub loop-op-preserved : goal.loop-op-preserved
loop-op-preserved c = passed_more has_numbers c.args.ops.now c.loop-op.op-index _ c.has_numbers.result c.loop-op-test.true c.loop-op.invariant c.has_numbers.ensures c.if-not-has_numbers.false

pub returns-then-not-has_numbers : goal.returns-then-not-has_numbers
returns-then-not-has_numbers c = not_passed has_numbers c.args.ops.now c.loop-op.op-index _ c.has_numbers.result c.loop-op-test.true c.has_numbers.ensures c.if-not-has_numbers.true
