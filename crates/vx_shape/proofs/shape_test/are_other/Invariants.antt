-- no block so far is the trap
use Rattle.std.proofs.Common.{◌≡◌, true, not, take}
use Rattle.std.specs.List.{list_all}
use Rattle.vx_shape.specs.ShapeTest.{is_trap_of}
use Rattle.vx_shape.proofs.shape_test.are_other.Given as goal

abbrev pub invariant-loop-block : goal.invariant-loop-block
invariant-loop-block l = list_all (λ block. not (is_trap_of l.trap block.exit)) (take l.block-index l.blocks) ≡ true
