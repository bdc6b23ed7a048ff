use Rattle.vx_motion.proofs.IfReplaced.{if_is_replaced}
use Rattle.vx_motion.proofs.laws.an_if_is_replaced.Goals as goal

pub returns : goal.returns
returns c = if_is_replaced
