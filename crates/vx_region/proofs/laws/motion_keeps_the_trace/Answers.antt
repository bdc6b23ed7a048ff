use Rattle.vx_region.proofs.Composing.{composed_law}
use Rattle.vx_region.proofs.laws.motion_keeps_the_trace.Goals as goal

pub returns : goal.returns
returns c = composed_law c.clusters_keep_the_order.ensures c.words_keep_the_order.ensures c.joins_keep_the_order.ensures
