use Rattle.vx_inline.proofs.Counts.{one_call_less as proved}
use Rattle.vx_inline.proofs.one_call_less.Goals as goal

pub returns : goal.returns
returns c = proved
