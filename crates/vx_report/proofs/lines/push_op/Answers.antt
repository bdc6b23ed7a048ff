-- The pieces stand one behind the other.
use Rattle.std.proofs.Common.{◌++◌, codes}
use Rattle.std.specs.Prelude.{decimal}
use Rattle.vx_report.proofs.Pieces.{pair_put, put_behind}
use Rattle.vx_report.proofs.lines.push_op.Goals as goal

pub returns : goal.returns
returns c =
    let old = c.args.out.now.items in
    let place = codes "op " ++ decimal c.args.place in
    let word = place ++ codes " word " ++ decimal c.args.word in
    let two = pair_put old _ _ place (codes " word ") (decimal c.args.word) c.in_ok-push_field.ensures c.in_ok-push_small.ensures in
    let three = pair_put old _ _ word (codes " cluster ") (decimal c.args.cluster) two c.in_ok-push_small-2.ensures in
    put_behind c.push_bytes.result old _ _ (word ++ codes " cluster " ++ decimal c.args.cluster) (codes "\n") three c.push_bytes.ensures
