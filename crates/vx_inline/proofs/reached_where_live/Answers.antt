use Rattle.vx_inline.proofs.Reaching.{reached_where_live as proved}
use Rattle.vx_inline.proofs.reached_where_live.Goals as goal

pub returns : goal.returns
returns c = proved
