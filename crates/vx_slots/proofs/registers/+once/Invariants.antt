use Rattle.std.proofs.Common.{length}
use Rattle.vx_slots.proofs.registers.+once.Given as goal

abbrev pub decreases-once : goal.decreases-once
decreases-once l = length l.values.now
