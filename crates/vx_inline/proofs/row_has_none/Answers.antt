use Rattle.vx_inline.proofs.Rows.{row_has_none as proved}
use Rattle.vx_inline.proofs.row_has_none.Goals as goal

pub returns : goal.returns
returns c = proved
