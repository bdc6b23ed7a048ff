use Rattle.vx_motion.proofs.Tracing.{paths_can_be_traced}
use Rattle.vx_motion.proofs.cycles.paths_can_be_traced.Goals as goal

pub returns : goal.returns
returns c = paths_can_be_traced
