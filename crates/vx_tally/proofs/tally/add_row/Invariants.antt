use Rattle.std.proofs.Common.{take}
use Rattle.vx_tally.specs.Tally.{MoreByRow}
use Rattle.vx_tally.proofs.tally.add_row.Given as goal

abbrev pub invariant-loop-index : goal.invariant-loop-index
invariant-loop-index l = MoreByRow l.initial.counts l.counts l.function (take l.index l.row)
