use Rattle.vx_tally.proofs.Running.{full_is}
use Rattle.vx_tally.proofs.machine.is_full.Goals as goal

pub returns : goal.returns
returns c = full_is c.args.waiting
