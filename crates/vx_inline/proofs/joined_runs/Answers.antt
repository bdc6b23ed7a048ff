use Rattle.vx_inline.proofs.Inlines.{joined_runs as proved}
use Rattle.vx_inline.proofs.joined_runs.Goals as goal

pub returns : goal.returns
returns c = proved
