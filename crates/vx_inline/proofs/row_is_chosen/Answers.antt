use Rattle.vx_inline.proofs.Rows.{row_is_chosen as proved}
use Rattle.vx_inline.proofs.row_is_chosen.Goals as goal

pub returns : goal.returns
returns c = proved
