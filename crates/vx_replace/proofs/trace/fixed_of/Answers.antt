use Rattle.vx_replace.proofs.Pushed.{fixed_more}
use Rattle.vx_replace.proofs.trace.fixed_of.Goals as goal

pub loop-index-preserved : goal.loop-index-preserved
loop-index-preserved c = λ live.
    fixed_more c.args.graph.now live c.args.blocks.now c.rest_of-rest.result.now c.loop-index.index c.loop-index.fixed c.push_fixed.new.fixed _ c.loop-index-test.true c.rest_of-rest.ensures (c.in_ok-push_fixed.ensures live) (c.loop-index.invariant live)
