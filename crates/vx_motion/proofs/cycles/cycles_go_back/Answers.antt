use Rattle.vx_motion.proofs.Ordering.{cycles_go_back}
use Rattle.vx_motion.proofs.cycles.cycles_go_back.Goals as goal

pub returns : goal.returns
returns c = cycles_go_back
