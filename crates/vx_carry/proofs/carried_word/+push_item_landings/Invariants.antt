use Rattle.std.proofs.Common.{length}
use Rattle.vx_carry.proofs.carried_word.+push_item_landings.Given as goal

abbrev pub decreases-push_item_landings : goal.decreases-push_item_landings
decreases-push_item_landings l = length l.items.now
