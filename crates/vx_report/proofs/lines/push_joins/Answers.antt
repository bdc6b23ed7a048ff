-- Each turn puts the line of one join more.
use Rattle.std.proofs.Common.{◌∙◌, ◌++◌, ap}
use Rattle.vx_dep.specs.declared.copies.Rejoin.{Rejoin}
use Rattle.vx_report.specs.Report.{join_line}
use Rattle.vx_report.proofs.Pieces.{piece_more, pieces_all}
use Rattle.vx_report.proofs.lines.push_joins.Goals as goal

pub loop-rejoin-preserved : goal.loop-rejoin-preserved
loop-rejoin-preserved c =
    let put = c.in_ok-push_join.ensures ∙ ap (λ (x : Rejoin). c.loop-rejoin.out.items ++ join_line x) c.rejoin-item.is in
    piece_more join_line c.args.out.now.items c.loop-rejoin.out.items c.args.rejoins.now c.loop-rejoin.rejoin-index c.push_join.new.out.items _ c.loop-rejoin.invariant put c.loop-rejoin-test.true

pub returns : goal.returns
returns c = pieces_all join_line c.args.out.now.items c.loop-rejoin.out.items c.args.rejoins.now c.loop-rejoin.rejoin-index c.loop-rejoin.invariant c.loop-rejoin-test.false
