use Rattle.vx_inline.proofs.Rows.{edges_get_blocks as proved}
use Rattle.vx_inline.proofs.edges_get_blocks.Goals as goal

pub returns : goal.returns
returns c = proved
