use Rattle.vx_raise.proofs.LiftLoops.{ops_pushed}
use Rattle.vx_raise.proofs.lifted_graph.ops_without.Goals as goal

pub loop-index-preserved : goal.loop-index-preserved
loop-index-preserved c = ops_pushed c.args.place c.loop-index.list c.push_unless.new.list c.args.ops.now c.loop-index.index _ c.loop-index.invariant c.in_ok-push_unless.ensures c.loop-index-test.true
