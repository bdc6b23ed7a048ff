-- each block so far has the shape
use Rattle.std.proofs.Common.{◌≡◌, true, take}
use Rattle.std.specs.List.{list_all}
use Rattle.vx_shape.specs.ShapeTest.{is_shaped_block}
use Rattle.vx_shape.proofs.shape_test.are_shaped_blocks.Given as goal

abbrev pub invariant-loop-block : goal.invariant-loop-block
invariant-loop-block l = list_all is_shaped_block (take l.block-index l.blocks) ≡ true
