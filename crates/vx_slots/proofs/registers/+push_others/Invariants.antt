use Rattle.std.proofs.Common.{length}
use Rattle.vx_slots.proofs.registers.+push_others.Given as goal

abbrev pub decreases-push_others : goal.decreases-push_others
decreases-push_others l = length l.values.now
