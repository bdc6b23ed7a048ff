use Rattle.std.proofs.Common.{length}
use Rattle.vx_regs.proofs.nodes.+push_items_ways.Given as goal

abbrev pub decreases-push_items_ways : goal.decreases-push_items_ways
decreases-push_items_ways l = length l.items.now
