use Rattle.vx_replace.proofs.PlacingSteps.{last_more}
use Rattle.vx_replace.proofs.region.last_of.Goals as goal

pub loop-block-preserved : goal.loop-block-preserved
loop-block-preserved c = last_more c.args.blocks.now c.loop-block.block-index c.loop-block-test.true
