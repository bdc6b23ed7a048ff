-- the registers so far are held
use Rattle.std.proofs.Common.{◌-◌, length}
use Rattle.vx_regs.proofs.Holding.{HeldUpTo}
use Rattle.vx_regs.proofs.scan.free_at.Given as goal

abbrev pub invariant-find : goal.invariant-find
invariant-find l = HeldUpTo l.held l.place l.register

abbrev pub decreases-find : goal.decreases-find
decreases-find l = length l.held - l.register
