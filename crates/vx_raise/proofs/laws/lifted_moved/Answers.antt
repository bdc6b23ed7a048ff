use Rattle.vx_raise.proofs.Lifts.{lifted_moved}
use Rattle.vx_raise.proofs.laws.lifted_moved.Goals as goal

pub returns : goal.returns
returns c = lifted_moved
