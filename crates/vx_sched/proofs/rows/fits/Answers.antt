use Rattle.std.proofs.Common.{rules, ◌≡◌, true, sym}
use Rattle.vx_sched.specs.Crowding.{is_crowded}
use Rattle.vx_sched.proofs.Crowded.{crowded}
use Rattle.vx_sched.proofs.rows.fits.Goals as goal

pub returns-then-is_crowded : goal.returns-then-is_crowded
returns-then-is_crowded c =
    let full : is_crowded c.args.machine.now c.args.row.now c.args.item ≡ true = search rules in
    sym (crowded c.args.machine.now c.args.homes.now c.args.row.now c.args.item full)
