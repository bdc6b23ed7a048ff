use Rattle.std.specs.List.{list_any}
use Rattle.vx_flow.specs.declared.graph.Block.{Block}
use Rattle.std.proofs.Common.{◌∙◌, ap}
use Rattle.vx_flow.specs.Sound.{makes_base}
use Rattle.vx_sound.proofs.Turns.{any_more, any_here, any_whole}
use Rattle.vx_sound.proofs.arguments.blocks_make.Goals as goal

pub loop-block-preserved : goal.loop-block-preserved
loop-block-preserved c = any_more _ c.args.blocks.now c.loop-block.block-index _ c.block_makes.result c.loop-block-test.true c.loop-block.invariant (c.block_makes.ensures ∙ ap (λ (b : Block). list_any (makes_base c.args.value) b.ops) c.block-item.is) c.if-block_makes.false

pub returns-then-block_makes : goal.returns-then-block_makes
returns-then-block_makes c = any_here _ c.args.blocks.now c.loop-block.block-index _ c.block_makes.result c.loop-block-test.true (c.block_makes.ensures ∙ ap (λ (b : Block). list_any (makes_base c.args.value) b.ops) c.block-item.is) c.if-block_makes.true

pub returns : goal.returns
returns c = any_whole _ c.args.blocks.now c.loop-block.block-index c.loop-block-test.false c.loop-block.invariant
