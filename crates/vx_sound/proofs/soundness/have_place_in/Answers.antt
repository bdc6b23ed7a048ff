use Rattle.std.proofs.Common.{◌∙◌, ap}
use Rattle.vx_flow.specs.Sound.{has_place_in}
use Rattle.vx_sound.proofs.Turns.{any_more, any_here, any_whole}
use Rattle.vx_sound.proofs.soundness.have_place_in.Goals as goal

pub loop-block-preserved : goal.loop-block-preserved
loop-block-preserved c = any_more _ c.args.blocks.now c.loop-block.block-index _ c.has_place_in.result c.loop-block-test.true c.loop-block.invariant (c.has_place_in.ensures ∙ ap (has_place_in c.args.value c.args.array) c.block-item.is) c.if-has_place_in.false

pub returns-then-has_place_in : goal.returns-then-has_place_in
returns-then-has_place_in c = any_here _ c.args.blocks.now c.loop-block.block-index _ c.has_place_in.result c.loop-block-test.true (c.has_place_in.ensures ∙ ap (has_place_in c.args.value c.args.array) c.block-item.is) c.if-has_place_in.true

pub returns : goal.returns
returns c = any_whole _ c.args.blocks.now c.loop-block.block-index c.loop-block-test.false c.loop-block.invariant
