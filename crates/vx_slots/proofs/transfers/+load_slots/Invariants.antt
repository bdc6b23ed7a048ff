use Rattle.std.proofs.Common.{length}
use Rattle.vx_slots.proofs.transfers.+load_slots.Given as goal

abbrev pub decreases-load_slots : goal.decreases-load_slots
decreases-load_slots l = length l.values.now
