use Rattle.std.proofs.Common.{◌∙◌, ap}
use Rattle.vx_sound.specs.Origins.{is_block_named}
use Rattle.vx_sound.proofs.Turns.{all_more, all_not, all_whole}
use Rattle.vx_sound.proofs.arguments.are_blocks_named.Goals as goal

pub loop-block-preserved : goal.loop-block-preserved
loop-block-preserved c = all_more _ c.args.blocks.now c.loop-block.block-index _ c.is_block_named.result c.loop-block-test.true c.loop-block.invariant (c.is_block_named.ensures ∙ ap (is_block_named c.args.origins.now c.args.taken.now c.args.flow.now) c.block-item.is) c.if-not-is_block_named.false

pub returns-then-not-is_block_named : goal.returns-then-not-is_block_named
returns-then-not-is_block_named c = all_not _ c.args.blocks.now c.loop-block.block-index _ c.is_block_named.result c.loop-block-test.true (c.is_block_named.ensures ∙ ap (is_block_named c.args.origins.now c.args.taken.now c.args.flow.now) c.block-item.is) c.if-not-is_block_named.true

pub returns : goal.returns
returns c = all_whole _ c.args.blocks.now c.loop-block.block-index c.loop-block-test.false c.loop-block.invariant
