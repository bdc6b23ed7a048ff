use Rattle.vx_tie.proofs.FrameHeats.{never_early_law}
use Rattle.vx_tie.proofs.heat.paths_are_never_early.Goals as goal

pub returns : goal.returns
returns c = never_early_law
