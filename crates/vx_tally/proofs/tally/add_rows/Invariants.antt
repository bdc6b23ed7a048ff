use Rattle.std.proofs.Common.{take}
use Rattle.vx_tally.specs.Tally.{MoreByRows}
use Rattle.vx_tally.proofs.tally.add_rows.Given as goal

abbrev pub invariant-loop-index : goal.invariant-loop-index
invariant-loop-index l = MoreByRows l.initial.counts l.counts (take l.index l.rows)
