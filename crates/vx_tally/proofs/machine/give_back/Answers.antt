use Rattle.std.specs.Int.{w32}
use Rattle.std.proofs.lemmas.Int.{to_z-of_z}
use Rattle.vx_tally.specs.Storage.{state_of}
use Rattle.vx_tally.specs.Machine.{active_of}
use Rattle.vx_tally.proofs.Running.{gave_back}
use Rattle.vx_tally.proofs.machine.give_back.Goals as goal

pub returns-in_ok-resume-in-Some : goal.returns-in_ok-resume-in-Some
returns-in_ok-resume-in-Some c =
    let given = rw (to_z-of_z w32 c.args.number c.ranges.number) at c.in_ok-resume-in-Some.ensures in
    gave_back c.args.number (state_of c.args.machine.now.storage) c.args.machine.now.base c.args.machine.now.waiting.items c.pop.new.self.items c.in-Some.frame (active_of c.resume.new.machine) c.in-Some.ensures.items given
