use Rattle.vx_base.proofs.Same.{same_self}
use Rattle.vx_base.proofs.laws.same_is_reflexive.Goals as goal

pub returns : goal.returns
returns c = same_self
