use Rattle.vx_inline.proofs.Likely.{so_far_next}
use Rattle.vx_inline.proofs.choice.likely_of.Goals as goal

pub loop-block-preserved : goal.loop-block-preserved
loop-block-preserved c =
    let asked = c.args.asked.now in
    so_far_next asked.flow.now asked.counts.now asked.most c.args.function c.args.calls.now c.loop-block.block-index _ c.args.best c.loop-block.likely c.likely_at-likely.result c.loop-block-test.true c.loop-block.invariant c.likely_at-likely.ensures
