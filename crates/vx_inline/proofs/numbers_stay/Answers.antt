use Rattle.vx_inline.proofs.Programs.{numbers_stay as proved}
use Rattle.vx_inline.proofs.numbers_stay.Goals as goal

pub returns : goal.returns
returns c = proved
