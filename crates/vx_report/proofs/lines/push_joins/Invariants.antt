use Rattle.std.proofs.Common.{◌≡◌, ◌++◌, take}
use Rattle.std.specs.List.{flat_map}
use Rattle.vx_report.specs.Report.{join_line}
use Rattle.vx_report.proofs.lines.push_joins.Given as goal

abbrev pub invariant-loop-rejoin : goal.invariant-loop-rejoin
invariant-loop-rejoin l = l.out.items ≡ l.fn.out.items ++ flat_map join_line (take l.rejoin-index l.rejoins)
