use Rattle.std.proofs.Common.{◌≡◌, take, true}
use Rattle.std.specs.List.{list_all}
use Rattle.vx_fold.specs.Folding.{numbers_of, settles_block}
use Rattle.vx_fold.proofs.settled.blocks_settle.Given as goal

abbrev pub invariant-loop-block : goal.invariant-loop-block
invariant-loop-block l = list_all (settles_block (numbers_of l.numbers)) (take l.block-index l.blocks) ≡ true
