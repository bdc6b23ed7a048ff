use Rattle.vx_motion.proofs.Tracing.{paths_meet_first}
use Rattle.vx_motion.proofs.cycles.paths_meet_first.Goals as goal

pub returns : goal.returns
returns c = paths_meet_first
