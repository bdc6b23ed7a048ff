use Rattle.vx_region.proofs.Motion.{splits_law}
use Rattle.vx_region.proofs.laws.words_keep_the_order.Goals as goal

pub returns : goal.returns
returns c = splits_law c.assigned_operations_stand.ensures
