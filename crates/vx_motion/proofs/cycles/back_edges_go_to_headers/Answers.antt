use Rattle.vx_motion.proofs.Backs.{back_edges_go_to_headers}
use Rattle.vx_motion.proofs.cycles.back_edges_go_to_headers.Goals as goal

pub returns : goal.returns
returns c = back_edges_go_to_headers
