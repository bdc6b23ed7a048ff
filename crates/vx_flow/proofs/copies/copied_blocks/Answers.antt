use Rattle.std.proofs.Common.{◌∙◌}
use Rattle.std.proofs.lemmas.List.{take_all}
use Rattle.vx_flow.proofs.Copying.{copied_more}
use Rattle.vx_flow.proofs.copies.copied_blocks.Goals as goal

pub loop-block-preserved : goal.loop-block-preserved
loop-block-preserved c = copied_more c.args.blocks.now c.loop-block.copies c.push.new.self _ _ c.loop-block.block-index c.loop-block-test.true c.loop-block.invariant c.in_ok-push.ensures.ok (c.in_ok-copied_block.ensures ∙ c.block-item.is)

pub returns : goal.returns
returns c = c.loop-block.invariant ∙ take_all c.loop-block.block-index c.args.blocks.now c.loop-block-test.false
