use Rattle.vx_flow.proofs.IndexSteps.{entered_step}
use Rattle.vx_flow.proofs.route_index.enter.Goals as goal

pub loop-node-preserved : goal.loop-node-preserved
loop-node-preserved c = entered_step c.args.to.now c.args.index c.args.rows.now c.loop-node.rows c.add.new.self c.loop-node.node-index c.loop-node-test.true c.loop-node.invariant c.in_ok-add.ensures.keeps c.in_ok-add.ensures.has
