use Rattle.vx_motion.proofs.Ordering.{cycles_have_headers}
use Rattle.vx_motion.proofs.cycles.cycles_have_headers.Goals as goal

pub returns : goal.returns
returns c = cycles_have_headers
