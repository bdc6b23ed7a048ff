-- The pieces stand one behind the other.
use Rattle.std.proofs.Common.{◌++◌, codes}
use Rattle.vx_report.specs.Report.{numbers_line, placed_text, seed_text}
use Rattle.vx_report.proofs.Pieces.{put_behind, two_put}
use Rattle.vx_report.proofs.text.push_trace.Goals as goal

pub returns : goal.returns
returns c =
    let old = c.args.out.now.items in
    let seed = seed_text c.args.number c.args.name.now c.args.plan.now in
    let placed = placed_text c.args.plan.now in
    let two = two_put old _ _ seed placed c.in_ok-push_seed.ensures c.in_ok-push_placed.ensures in
    put_behind c.push_numbers.result old _ _ (seed ++ placed) (numbers_line (codes "places") c.args.places.now) two c.push_numbers.ensures
