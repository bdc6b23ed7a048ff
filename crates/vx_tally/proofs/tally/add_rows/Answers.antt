use Rattle.std.proofs.Common.{subst, arith}
use Rattle.vx_tally.specs.Tally.{MoreByRow}
use Rattle.vx_tally.proofs.Gathering.{rows_none, rows_more, rows_all}
use Rattle.vx_tally.proofs.tally.add_rows.Goals as goal

pub loop-index-init : goal.loop-index-init
loop-index-init c = rows_none c.args.counts.now c.args.rows.now

pub loop-index-preserved : goal.loop-index-preserved
loop-index-preserved c =
    let row = subst (λ r. MoreByRow c.loop-index.counts c.add_row.new.counts c.in_ok-function.function r) c.as_slice.ensures c.in_ok-add_row.ensures in
    rows_more c.args.counts.now c.loop-index.counts c.add_row.new.counts c.loop-index.index c.args.rows.now c.index-rows-index.result c.loop-index-test.true c.index-rows-index.is c.loop-index.invariant
    (subst (λ n. MoreByRow c.loop-index.counts c.add_row.new.counts n c.index-rows-index.result) c.in_ok-function.ensures row)

pub returns : goal.returns
returns c = rows_all c.args.counts.now c.loop-index.counts c.loop-index.index c.args.rows.now (omega arith) c.loop-index.invariant
