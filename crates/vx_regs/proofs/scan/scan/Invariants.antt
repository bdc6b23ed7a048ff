use Rattle.std.proofs.Common.{length}
use Rattle.vx_regs.proofs.Scans.{Going}
use Rattle.vx_regs.proofs.scan.scan.Given as goal

abbrev pub invariant-scan : goal.invariant-scan
invariant-scan l = Going l.fn.machine l.fn.spans l.rest l.file l.held.items l.kept.items l.next

abbrev pub decreases-scan : goal.decreases-scan
decreases-scan l = length l.rest
