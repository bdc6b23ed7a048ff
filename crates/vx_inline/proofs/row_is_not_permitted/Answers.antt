use Rattle.vx_inline.proofs.Rows.{row_is_not_permitted as proved}
use Rattle.vx_inline.proofs.row_is_not_permitted.Goals as goal

pub returns : goal.returns
returns c = proved
