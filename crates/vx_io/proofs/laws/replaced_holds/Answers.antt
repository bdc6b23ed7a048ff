use Rattle.vx_io.proofs.OutsideLaws.{replaced_holds}
use Rattle.vx_io.proofs.laws.replaced_holds.Goals as goal

pub returns : goal.returns
returns c = replaced_holds
