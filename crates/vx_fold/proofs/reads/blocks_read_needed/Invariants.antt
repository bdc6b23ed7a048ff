use Rattle.std.proofs.Common.{◌≡◌, take, true}
use Rattle.std.specs.List.{list_all}
use Rattle.vx_fold.specs.Thinning.{block_reads_read, unread_of}
use Rattle.vx_fold.proofs.reads.blocks_read_needed.Given as goal

abbrev pub invariant-loop-block : goal.invariant-loop-block
invariant-loop-block l = list_all (block_reads_read (unread_of l.needed)) (take l.block-index l.blocks) ≡ true
