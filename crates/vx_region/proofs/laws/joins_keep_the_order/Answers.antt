use Rattle.vx_region.proofs.Motion.{joins_law}
use Rattle.vx_region.proofs.laws.joins_keep_the_order.Goals as goal

pub returns : goal.returns
returns c = joins_law c.assigned_operations_stand.ensures
