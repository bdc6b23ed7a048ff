use Rattle.std.proofs.Common.{◌+◌, ◌∙◌, drop, sym, ap}
use Rattle.vx_mixed.proofs.RouteSteps.{left_from}
use Rattle.vx_replace.specs.TraceLists.{marked}
use Rattle.vx_replace.proofs.joins.mark_all.Goals as goal

pub loop-block-preserved : goal.loop-block-preserved
loop-block-preserved c =
    let bs = c.args.blocks.now in
    let i = c.loop-block.block-index in
    ap (marked (drop (i + 1) bs)) c.mark.ensures ∙ sym (ap (λ l. marked l c.loop-block.marks.items) (left_from bs i 0 c.loop-block-test.true)) ∙ c.loop-block.invariant
