use Rattle.std.proofs.Common.{◌≡◌, false, drop}
use Rattle.vx_shape.specs.ShapeTest.{are_traps_last}
use Rattle.vx_shape.proofs.shape_test.are_traps_last.Given as goal

abbrev pub invariant-loop-block : goal.invariant-loop-block
invariant-loop-block l = are_traps_last false l.blocks ≡ are_traps_last l.behind (drop l.block-index l.blocks)
