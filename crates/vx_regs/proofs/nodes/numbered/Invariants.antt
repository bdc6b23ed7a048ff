use Rattle.std.proofs.Common.{length}
use Rattle.vx_regs.proofs.NodeMarks.{Numbering}
use Rattle.vx_regs.proofs.nodes.numbered.Given as goal

abbrev pub invariant-marks : goal.invariant-marks
invariant-marks l = Numbering l.fn.marks l.numbers l.count l.rest

abbrev pub decreases-marks : goal.decreases-marks
decreases-marks l = length l.rest
