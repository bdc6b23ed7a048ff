use Rattle.vx_inline.proofs.FlowSound.{inlined_sound as proved}
use Rattle.vx_inline.proofs.inlined_sound.Goals as goal

pub returns : goal.returns
returns c = proved
