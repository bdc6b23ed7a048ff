use Rattle.std.proofs.Common.{◌≡◌, drop}
use Rattle.vx_shape.specs.ShapeTest.{are_traps_alone}
use Rattle.vx_shape.proofs.shape_test.are_traps_alone.Given as goal

abbrev pub invariant-loop-place : goal.invariant-loop-place
invariant-loop-place l = are_traps_alone l.blocks ≡ are_traps_alone (drop l.place l.blocks)
