use Rattle.vx_check.proofs.Tables.{checks_pending, checks_yes}
use Rattle.vx_check.proofs.strictness.check_paths.Goals as goal

pub returns-in-Some : goal.returns-in-Some
returns-in-Some c =
    checks_pending c.args.machine.now c.args.program.now c.in_ok-flights.flights.at.items c.in_ok-flights.flights.anywhere c.in_ok-flights.ensures.tell c.in_ok-flights.ensures.due c.in-Some.place c.requires c.in-Some.ensures

pub returns : goal.returns
returns c =
    checks_yes c.args.machine.now c.args.program.now c.in_ok-flights.flights.at.items c.in_ok-flights.flights.anywhere c.in_ok-flights.ensures.tell c.in_ok-flights.ensures.due c.requires c.in-None.ensures
