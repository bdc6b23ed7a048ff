-- The pieces stand one behind the other.
use Rattle.std.proofs.Common.{◌++◌, codes}
use Rattle.std.specs.Prelude.{decimal}
use Rattle.vx_report.proofs.Pieces.{pair_put, put_behind}
use Rattle.vx_report.proofs.text.push_sums.Goals as goal

pub returns : goal.returns
returns c =
    let old = c.args.out.now.items in
    let spilled = codes "spilled " ++ decimal c.args.spilled in
    let two = pair_put old _ _ spilled (codes "\ncopies ") (decimal c.args.copies) c.in_ok-push_small.ensures c.in_ok-push_small-2.ensures in
    put_behind c.push_bytes.result old _ _ (spilled ++ codes "\ncopies " ++ decimal c.args.copies) (codes "\nend\n") two c.push_bytes.ensures
