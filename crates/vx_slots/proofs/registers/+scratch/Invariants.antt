use Rattle.std.proofs.Common.{length}
use Rattle.vx_slots.proofs.registers.+scratch.Given as goal

abbrev pub decreases-scratch : goal.decreases-scratch
decreases-scratch l = length l.names.now
