use Rattle.std.proofs.Common.{length}
use Rattle.vx_regs.proofs.nodes.+mark_items.Given as goal

abbrev pub decreases-mark_items : goal.decreases-mark_items
decreases-mark_items l = length l.items.now
