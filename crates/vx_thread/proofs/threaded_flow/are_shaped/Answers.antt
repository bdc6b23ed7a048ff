use Rattle.vx_thread.proofs.ThreadFlow.{shaped_next}
use Rattle.vx_thread.proofs.threaded_flow.are_shaped.Goals as goal

pub loop-graph-preserved : goal.loop-graph-preserved
loop-graph-preserved c =
    shaped_next c.args.graphs.now c.loop-graph.graph-index c.graph-item.result c.loop-graph-test.true c.graph-item.is c.loop-graph.invariant (c.in_ok-has_shape.ensures c.if-not-branch.false)
