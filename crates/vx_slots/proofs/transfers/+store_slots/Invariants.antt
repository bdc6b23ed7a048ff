use Rattle.std.proofs.Common.{length}
use Rattle.vx_slots.proofs.transfers.+store_slots.Given as goal

abbrev pub decreases-store_slots : goal.decreases-store_slots
decreases-store_slots l = length l.values.now
