use Rattle.vx_inline.proofs.Joining.{inlined_runs as proved}
use Rattle.vx_inline.proofs.inlined_runs.Goals as goal

pub returns : goal.returns
returns c = proved
