use Rattle.vx_motion.proofs.Headed.{stays_headed}
use Rattle.vx_motion.proofs.cycles.stays_headed.Goals as goal

pub returns : goal.returns
returns c = stays_headed
