-- The pieces stand one behind the other.
use Rattle.std.proofs.Common.{◌++◌, codes}
use Rattle.std.specs.Prelude.{decimal}
use Rattle.vx_report.specs.Report.{mode_text}
use Rattle.vx_report.proofs.Pieces.{pair_put, put_behind, two_put}
use Rattle.vx_report.proofs.text.push_seed.Goals as goal

pub returns : goal.returns
returns c =
    let old = c.args.out.now.items in
    let name = c.args.name.now in
    let plan = c.args.plan.now in
    let a = codes "trace " ++ decimal c.args.number in
    let b = a ++ codes " function " in
    let d = b ++ name in
    let e = d ++ codes " count " ++ decimal plan.count in
    let f = e ++ codes " mode " in
    let g = f ++ mode_text plan.mode in
    let two = two_put old _ _ a (codes " function ") c.in_ok-push_field.ensures c.in_ok-push_bytes.ensures in
    let three = two_put old _ _ b name two c.in_ok-push_bytes-2.ensures in
    let four = pair_put old _ _ d (codes " count ") (decimal plan.count) three c.in_ok-push_field-2.ensures in
    let five = two_put old _ _ e (codes " mode ") four c.in_ok-push_bytes-3.ensures in
    let six = two_put old _ _ f (mode_text plan.mode) five c.in_ok-push_mode.ensures in
    let seven = pair_put old _ _ g (codes " words ") (decimal plan.placed.length) six c.in_ok-push_small.ensures in
    put_behind c.push_bytes-4.result old _ _ (g ++ codes " words " ++ decimal plan.placed.length) (codes "\n") seven c.push_bytes-4.ensures
