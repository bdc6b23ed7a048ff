-- The pieces stand one behind the other.
use Rattle.std.proofs.Common.{◌≡◌, ◌++◌, List, ℕ, OnOk, codes, subst}
use Rattle.std.specs.Prelude.{decimal}
use Rattle.vx_report.specs.Report.{numbers_line}
use Rattle.vx_report.proofs.Pieces.{pair_put, put_behind}
use Rattle.vx_report.proofs.lines.push_join.Goals as goal

pub returns : goal.returns
returns c =
    let old = c.args.out.now.items in
    let join = c.args.rejoin.now in
    let block = codes "join " ++ decimal join.block in
    let two = pair_put old _ _ block (codes " rejoin ") (decimal join.word) c.in_ok-push_small.ensures c.in_ok-push_small-2.ensures in
    let line = subst (λ (z : List ℕ). OnOk c.push_numbers.result (c.push_numbers.new.out.items ≡ c.push_small-2.new.out.items ++ numbers_line (codes " copies") z)) c.as_slice.ensures c.push_numbers.ensures in
    put_behind c.push_numbers.result old _ _ (block ++ codes " rejoin " ++ decimal join.word) (numbers_line (codes " copies") join.copies) two line
