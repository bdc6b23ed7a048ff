use Rattle.vx_motion.proofs.laws.placement_keeps_the_meaning.Goals as goal
use Rattle.vx_motion.proofs.Scheduled.{motion_law}

pub returns : goal.returns
returns c = motion_law
