use Rattle.std.proofs.Common.{◌∙◌, ap, sym, take_all}
use Rattle.std.specs.List.{list_all}
use Rattle.vx_fold.specs.Thinning.{block_reads_read, unread_of}
use Rattle.vx_fold.proofs.Alls.{one_fails, one_more}
use Rattle.vx_fold.proofs.reads.blocks_read_needed.Goals as goal

pub loop-block-preserved : goal.loop-block-preserved
loop-block-preserved c = one_more (block_reads_read (unread_of c.args.needed.now)) c.args.blocks.now c.loop-block.block-index _ c.block_reads_needed.result c.loop-block-test.true c.loop-block.invariant (c.block_reads_needed.ensures ∙ ap (block_reads_read (unread_of c.args.needed.now)) c.block-item.is) c.if-not-block_reads_needed.false

pub returns-then-not-block_reads_needed : goal.returns-then-not-block_reads_needed
returns-then-not-block_reads_needed c = one_fails (block_reads_read (unread_of c.args.needed.now)) c.args.blocks.now c.loop-block.block-index _ c.block_reads_needed.result c.loop-block-test.true (c.block_reads_needed.ensures ∙ ap (block_reads_read (unread_of c.args.needed.now)) c.block-item.is) c.if-not-block_reads_needed.true

pub returns : goal.returns
returns c = sym (ap (list_all (block_reads_read (unread_of c.args.needed.now))) (sym (take_all c.loop-block.block-index c.args.blocks.now c.loop-block-test.false)) ∙ c.loop-block.invariant)
