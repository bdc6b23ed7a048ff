use Rattle.vx_motion.proofs.laws.compensation_keeps_the_meaning.Goals as goal
use Rattle.vx_motion.proofs.Compensated.{compensation_law}

pub returns : goal.returns
returns c = compensation_law
