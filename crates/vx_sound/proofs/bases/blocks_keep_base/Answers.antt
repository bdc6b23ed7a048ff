use Rattle.std.proofs.Common.{◌∙◌, ap}
use Rattle.vx_flow.specs.Sound.{block_keeps_base}
use Rattle.vx_sound.proofs.Turns.{all_more, all_not, all_whole}
use Rattle.vx_sound.proofs.bases.blocks_keep_base.Goals as goal

pub loop-block-preserved : goal.loop-block-preserved
loop-block-preserved c = all_more _ c.args.blocks.now c.loop-block.block-index _ c.block_keeps_base.result c.loop-block-test.true c.loop-block.invariant (c.block_keeps_base.ensures ∙ ap (block_keeps_base c.args.value) c.block-item.is) c.if-not-block_keeps_base.false

pub returns-then-not-block_keeps_base : goal.returns-then-not-block_keeps_base
returns-then-not-block_keeps_base c = all_not _ c.args.blocks.now c.loop-block.block-index _ c.block_keeps_base.result c.loop-block-test.true (c.block_keeps_base.ensures ∙ ap (block_keeps_base c.args.value) c.block-item.is) c.if-not-block_keeps_base.true

pub returns : goal.returns
returns c = all_whole _ c.args.blocks.now c.loop-block.block-index c.loop-block-test.false c.loop-block.invariant
