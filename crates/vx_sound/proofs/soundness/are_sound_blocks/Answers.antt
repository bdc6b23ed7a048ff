use Rattle.std.proofs.Common.{◌∙◌, ap}
use Rattle.vx_flow.specs.Sound.{is_sound_block}
use Rattle.vx_sound.proofs.Turns.{all_more, all_not, all_whole}
use Rattle.vx_sound.proofs.soundness.are_sound_blocks.Goals as goal

pub loop-block-preserved : goal.loop-block-preserved
loop-block-preserved c = all_more _ c.args.blocks.now c.loop-block.block-index _ c.is_sound_block.result c.loop-block-test.true c.loop-block.invariant (c.is_sound_block.ensures ∙ ap (is_sound_block c.args.graph.now) c.block-item.is) c.if-not-is_sound_block.false

pub returns-then-not-is_sound_block : goal.returns-then-not-is_sound_block
returns-then-not-is_sound_block c = all_not _ c.args.blocks.now c.loop-block.block-index _ c.is_sound_block.result c.loop-block-test.true (c.is_sound_block.ensures ∙ ap (is_sound_block c.args.graph.now) c.block-item.is) c.if-not-is_sound_block.true

pub returns : goal.returns
returns c = all_whole _ c.args.blocks.now c.loop-block.block-index c.loop-block-test.false c.loop-block.invariant
