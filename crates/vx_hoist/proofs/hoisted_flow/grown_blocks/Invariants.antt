use Rattle.std.proofs.Common.{take}
use Rattle.vx_fold.specs.Thinning.{unread_of}
use Rattle.vx_shape.specs.Flows.{Each}
use Rattle.vx_hoist.specs.Growing.{BlockGrows}
use Rattle.vx_hoist.proofs.hoisted_flow.grown_blocks.Given as goal

abbrev pub invariant-loop-place : goal.invariant-loop-place
invariant-loop-place l = Each (BlockGrows (unread_of l.named)) (take l.place l.blocks) l.grown
