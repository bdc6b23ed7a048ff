use Rattle.vx_region.proofs.Motion.{order_law}
use Rattle.vx_region.proofs.laws.clusters_keep_the_order.Goals as goal

pub returns : goal.returns
returns c = order_law c.assigned_operations_stand.ensures
