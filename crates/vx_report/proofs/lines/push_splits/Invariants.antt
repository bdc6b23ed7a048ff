use Rattle.std.proofs.Common.{◌≡◌, ◌++◌, take}
use Rattle.std.specs.List.{flat_map}
use Rattle.vx_report.specs.Report.{split_line}
use Rattle.vx_report.proofs.lines.push_splits.Given as goal

abbrev pub invariant-loop-split : goal.invariant-loop-split
invariant-loop-split l = l.out.items ≡ l.fn.out.items ++ flat_map split_line (take l.split-index l.splits)
