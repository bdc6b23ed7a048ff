use Rattle.vx_inline.proofs.Programs.{inlined_runs_as as proved}
use Rattle.vx_inline.proofs.inlined_runs_as.Goals as goal

pub returns : goal.returns
returns c = proved
