use Rattle.std.proofs.Common.{◌≡◌, map, take}
use Rattle.vx_fold.specs.Folding.{folded_block, numbers_of}
use Rattle.vx_fold.proofs.fold.folded_blocks.Given as goal

abbrev pub invariant-loop-block : goal.invariant-loop-block
invariant-loop-block l = l.folded ≡ map (folded_block (numbers_of l.numbers)) (take l.block-index l.blocks)
