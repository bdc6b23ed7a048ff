use Rattle.std.proofs.Common.{◌≡◌, ◌++◌, drop}
use Rattle.vx_report.specs.Report.{ops_text}
use Rattle.vx_report.proofs.text.push_ops.Given as goal

-- what is written and what the operations from here on still give make the whole
abbrev pub invariant-loop-place : goal.invariant-loop-place
invariant-loop-place l = l.out.items ++ ops_text l.words l.clusters l.place (drop l.place l.ops) ≡ l.fn.out.items ++ ops_text l.words l.clusters 0 l.ops
