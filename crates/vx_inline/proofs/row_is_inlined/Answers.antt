use Rattle.vx_inline.proofs.Rows.{row_is_inlined as proved}
use Rattle.vx_inline.proofs.row_is_inlined.Goals as goal

pub returns : goal.returns
returns c = proved
