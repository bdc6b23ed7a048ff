use Rattle.vx_sched.proofs.Unique.{no_earlier}
use Rattle.vx_sched.proofs.laws.tight.Goals as goal

pub returns : goal.returns
returns c = no_earlier
