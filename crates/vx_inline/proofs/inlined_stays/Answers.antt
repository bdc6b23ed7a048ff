use Rattle.vx_inline.proofs.Programs.{inlined_stays as proved}
use Rattle.vx_inline.proofs.inlined_stays.Goals as goal

pub returns : goal.returns
returns c = proved
