use Rattle.vx_inline.proofs.One.{inlined_is_one as proved}
use Rattle.vx_inline.proofs.inlined_is_one.Goals as goal

pub returns : goal.returns
returns c = proved
