-- Each turn puts one number more.
use Rattle.vx_report.specs.Report.{behind_blank}
use Rattle.vx_report.proofs.Pieces.{piece_more, pieces_all}
use Rattle.vx_report.proofs.lines.push_list.Goals as goal

pub loop-number-preserved : goal.loop-number-preserved
loop-number-preserved c = piece_more behind_blank c.args.out.now.items c.loop-number.out.items c.args.numbers.now c.loop-number.number-index c.push_behind_blank.new.out.items _ c.loop-number.invariant c.in_ok-push_behind_blank.ensures c.loop-number-test.true

pub returns : goal.returns
returns c = pieces_all behind_blank c.args.out.now.items c.loop-number.out.items c.args.numbers.now c.loop-number.number-index c.loop-number.invariant c.loop-number-test.false
