use Rattle.std.proofs.Common.{◌≡◌, drop}
use Rattle.vx_shape.specs.ShapeTest.{are_uncritical}
use Rattle.vx_shape.proofs.shape_test.are_uncritical.Given as goal

abbrev pub invariant-loop-place : goal.invariant-loop-place
invariant-loop-place l = are_uncritical l.origins l.many 0 l.blocks ≡ are_uncritical l.origins l.many l.place (drop l.place l.blocks)
