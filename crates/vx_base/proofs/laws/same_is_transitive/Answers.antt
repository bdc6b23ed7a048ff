use Rattle.vx_base.proofs.Same.{same_on}
use Rattle.vx_base.proofs.laws.same_is_transitive.Goals as goal

pub returns : goal.returns
returns c = same_on
