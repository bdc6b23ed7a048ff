-- The pieces stand one behind the other.
use Rattle.std.proofs.Common.{◌≡◌, ◌++◌, List, ℕ, OnOk, codes, subst}
use Rattle.std.specs.Prelude.{decimal}
use Rattle.vx_report.specs.Report.{numbers_line}
use Rattle.vx_report.proofs.Pieces.{put_behind}
use Rattle.vx_report.proofs.lines.push_split.Goals as goal

pub returns : goal.returns
returns c =
    let split = c.args.split.now in
    let line = subst (λ (z : List ℕ). OnOk c.push_numbers.result (c.push_numbers.new.out.items ≡ c.push_small.new.out.items ++ numbers_line (codes " copies") z)) c.as_slice.ensures c.push_numbers.ensures in
    put_behind c.push_numbers.result c.args.out.now.items _ _ (codes "split " ++ decimal split.split) (numbers_line (codes " copies") split.copies) c.in_ok-push_small.ensures line
