use Rattle.std.proofs.Common.{◌∙◌, ap}
use Rattle.vx_flow.specs.Sound.{is_block_there}
use Rattle.vx_sound.proofs.Turns.{all_more, all_not, all_whole}
use Rattle.vx_sound.proofs.program_names.are_blocks_there.Goals as goal

pub loop-block-preserved : goal.loop-block-preserved
loop-block-preserved c = all_more _ c.args.blocks.now c.loop-block.block-index _ c.is_block_there.result c.loop-block-test.true c.loop-block.invariant (c.is_block_there.ensures ∙ ap (is_block_there c.args.flow.now c.args.graph.now) c.block-item.is) c.if-not-is_block_there.false

pub returns-then-not-is_block_there : goal.returns-then-not-is_block_there
returns-then-not-is_block_there c = all_not _ c.args.blocks.now c.loop-block.block-index _ c.is_block_there.result c.loop-block-test.true (c.is_block_there.ensures ∙ ap (is_block_there c.args.flow.now c.args.graph.now) c.block-item.is) c.if-not-is_block_there.true

pub returns : goal.returns
returns c = all_whole _ c.args.blocks.now c.loop-block.block-index c.loop-block-test.false c.loop-block.invariant
