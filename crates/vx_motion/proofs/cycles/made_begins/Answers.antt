use Rattle.vx_motion.proofs.MadeBlocks.{made_begins}
use Rattle.vx_motion.proofs.cycles.made_begins.Goals as goal

pub returns : goal.returns
returns c = made_begins
