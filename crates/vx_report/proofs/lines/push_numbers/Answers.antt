-- The pieces stand one behind the other.
use Rattle.std.proofs.Common.{◌++◌, codes}
use Rattle.vx_report.specs.Report.{list_text}
use Rattle.vx_report.proofs.Pieces.{put_behind, two_put}
use Rattle.vx_report.proofs.lines.push_numbers.Goals as goal

pub returns : goal.returns
returns c =
    let old = c.args.out.now.items in
    let word = c.args.word.now in
    let list = list_text c.args.numbers.now in
    let two = two_put old _ _ word list c.in_ok-push_bytes.ensures c.in_ok-push_list.ensures in
    put_behind c.push_bytes-2.result old _ _ (word ++ list) (codes "\n") two c.push_bytes-2.ensures
