use Rattle.vx_machine.proofs.Counts.{all_more, all_not}
use Rattle.vx_machine.proofs.fit.has_operands.Goals as goal

pub loop-op-preserved : goal.loop-op-preserved
loop-op-preserved c = all_more _ c.args.ops.now c.loop-op.op-index _ c.has_reads.result c.loop-op-test.true c.loop-op.invariant c.has_reads.ensures c.if-not-has_reads.false

pub returns-then-not-has_reads : goal.returns-then-not-has_reads
returns-then-not-has_reads c = all_not _ c.args.ops.now c.loop-op.op-index _ c.has_reads.result c.loop-op-test.true c.has_reads.ensures c.if-not-has_reads.true
