use Rattle.vx_io.proofs.OutsideLaws.{others_stay}
use Rattle.vx_io.proofs.laws.others_stay.Goals as goal

pub returns : goal.returns
returns c = others_stay
