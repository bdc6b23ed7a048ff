use Rattle.vx_sim.proofs.Ordering.{order_law}
use Rattle.vx_sim.proofs.laws.order_law.Goals as goal

pub returns : goal.returns
returns c = order_law
