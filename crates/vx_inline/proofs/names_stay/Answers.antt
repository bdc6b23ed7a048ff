use Rattle.vx_inline.proofs.Reaching.{names_stay as proved}
use Rattle.vx_inline.proofs.names_stay.Goals as goal

pub returns : goal.returns
returns c = proved
