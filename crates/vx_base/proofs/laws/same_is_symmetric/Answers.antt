use Rattle.vx_base.proofs.Same.{same_back}
use Rattle.vx_base.proofs.laws.same_is_symmetric.Goals as goal

pub returns : goal.returns
returns c = same_back
