use Rattle.vx_motion.proofs.MadeBlocks.{made_stays}
use Rattle.vx_motion.proofs.cycles.made_stays.Goals as goal

pub returns : goal.returns
returns c = made_stays
