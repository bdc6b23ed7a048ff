use Rattle.std.proofs.Common.{length}
use Rattle.vx_slots.proofs.registers.+push_slotted.Given as goal

abbrev pub decreases-push_slotted : goal.decreases-push_slotted
decreases-push_slotted l = length l.values.now
