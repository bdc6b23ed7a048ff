use Rattle.std.proofs.Common.{subst, arith}
use Rattle.vx_tally.specs.Tally.{entry_at, MoreByEntry}
use Rattle.vx_tally.proofs.Gathering.{row_none, row_more, row_all}
use Rattle.vx_tally.proofs.tally.add_row.Goals as goal

pub loop-index-init : goal.loop-index-init
loop-index-init c = row_none c.args.counts.now c.args.function c.args.row.now

pub loop-index-preserved : goal.loop-index-preserved
loop-index-preserved c = row_more c.args.counts.now c.loop-index.counts c.add_entry.new.counts c.args.function c.loop-index.index c.args.row.now c.loop-index-test.true c.loop-index.invariant
    (subst (λ n. MoreByEntry c.loop-index.counts c.add_entry.new.counts c.args.function n (entry_at c.args.row.now c.loop-index.index)) c.in_ok-block.ensures c.in_ok-add_entry.ensures)

pub returns : goal.returns
returns c = row_all c.args.counts.now c.loop-index.counts c.args.function c.loop-index.index c.args.row.now (omega arith) c.loop-index.invariant
