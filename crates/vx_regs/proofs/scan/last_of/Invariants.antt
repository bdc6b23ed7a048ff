-- the last of the registers so far
use Rattle.std.proofs.Common.{◌-◌, length}
use Rattle.vx_regs.specs.Held.{IsLast}
use Rattle.vx_regs.proofs.scan.last_of.Given as goal

abbrev pub invariant-pass : goal.invariant-pass
invariant-pass l = IsLast l.held l.fn.span l.register l.last

abbrev pub decreases-pass : goal.decreases-pass
decreases-pass l = length l.held - l.register
