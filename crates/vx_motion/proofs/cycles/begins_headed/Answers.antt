use Rattle.vx_motion.proofs.Headed.{begins_headed}
use Rattle.vx_motion.proofs.cycles.begins_headed.Goals as goal

pub returns : goal.returns
returns c = begins_headed
