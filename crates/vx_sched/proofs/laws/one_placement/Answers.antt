use Rattle.vx_sched.proofs.Unique.{one_placement}
use Rattle.vx_sched.proofs.laws.one_placement.Goals as goal

pub returns : goal.returns
returns c = one_placement
