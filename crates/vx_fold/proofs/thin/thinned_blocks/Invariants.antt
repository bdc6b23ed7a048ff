use Rattle.std.proofs.Common.{◌≡◌, map, take}
use Rattle.vx_fold.specs.Thinning.{thinned_block, unread_of}
use Rattle.vx_fold.proofs.thin.thinned_blocks.Given as goal

abbrev pub invariant-loop-block : goal.invariant-loop-block
invariant-loop-block l = l.thinned ≡ map (thinned_block (unread_of l.needed)) (take l.block-index l.blocks)
