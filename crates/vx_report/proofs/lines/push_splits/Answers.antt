-- Each turn puts the line of one split more.
use Rattle.std.proofs.Common.{◌∙◌, ◌++◌, ap}
use Rattle.vx_dep.specs.declared.copies.EdgeCopies.{EdgeCopies}
use Rattle.vx_report.specs.Report.{split_line}
use Rattle.vx_report.proofs.Pieces.{piece_more, pieces_all}
use Rattle.vx_report.proofs.lines.push_splits.Goals as goal

pub loop-split-preserved : goal.loop-split-preserved
loop-split-preserved c =
    let put = c.in_ok-push_split.ensures ∙ ap (λ (x : EdgeCopies). c.loop-split.out.items ++ split_line x) c.split-item.is in
    piece_more split_line c.args.out.now.items c.loop-split.out.items c.args.splits.now c.loop-split.split-index c.push_split.new.out.items _ c.loop-split.invariant put c.loop-split-test.true

pub returns : goal.returns
returns c = pieces_all split_line c.args.out.now.items c.loop-split.out.items c.args.splits.now c.loop-split.split-index c.loop-split.invariant c.loop-split-test.false
