use Rattle.std.proofs.Common.{◌<◌, length, sym, ◌∙◌, arith}
use Rattle.vx_replace.proofs.TraceSteps.{rejoin_more}
use Rattle.vx_replace.proofs.nodes.rejoin_at.Goals as goal

pub loop-index-preserved : goal.loop-index-preserved
loop-index-preserved c =
    let low : c.loop-index.index < length c.args.rejoins.now = omega (arith, c.if-index-rejoins.false) in
    sym (rejoin_more c.args.joins.now c.args.rejoins.now c.loop-index.index c.args.block c.index-joins-index.result c.loop-index-test.true c.index-joins-index.is low c.if-join-block.false) ∙ c.loop-index.invariant
