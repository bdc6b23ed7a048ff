use Rattle.vx_machine.proofs.Counts.{all_more, all_not}
use Rattle.vx_machine.proofs.bad_word.keep_to_clusters.Goals as goal

pub loop-op-preserved : goal.loop-op-preserved
loop-op-preserved c = all_more _ c.args.ops.now c.loop-op.op-index _ c.keeps_to_cluster.result c.loop-op-test.true c.loop-op.invariant c.keeps_to_cluster.ensures c.if-not-keeps_to_cluster.false

pub returns-then-not-keeps_to_cluster : goal.returns-then-not-keeps_to_cluster
returns-then-not-keeps_to_cluster c = all_not _ c.args.ops.now c.loop-op.op-index _ c.keeps_to_cluster.result c.loop-op-test.true c.keeps_to_cluster.ensures c.if-not-keeps_to_cluster.true
