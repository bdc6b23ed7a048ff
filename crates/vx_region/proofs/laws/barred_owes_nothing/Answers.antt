use Rattle.vx_region.proofs.Modes.{barred_owes_nothing}
use Rattle.vx_region.proofs.laws.barred_owes_nothing.Goals as goal

pub returns : goal.returns
returns c = barred_owes_nothing
