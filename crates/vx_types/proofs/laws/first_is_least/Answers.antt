use Rattle.vx_types.proofs.Firsts.{first_is_least}
use Rattle.vx_types.proofs.laws.first_is_least.Goals as goal

pub returns : goal.returns
returns c = first_is_least
