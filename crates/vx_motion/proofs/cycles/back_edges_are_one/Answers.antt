use Rattle.vx_motion.proofs.Backs.{back_edges_are_one}
use Rattle.vx_motion.proofs.cycles.back_edges_are_one.Goals as goal

pub returns : goal.returns
returns c = back_edges_are_one
