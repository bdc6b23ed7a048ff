use Rattle.std.proofs.Common.{◌≡◌, ◌++◌, drop}
use Rattle.vx_ast.specs.View.{program_of}
use Rattle.vx_report.specs.Report.{names_of, traces_text}
use Rattle.vx_report.proofs.text.push_traces.Given as goal

-- what is written and what the traces from here on still give make the whole
abbrev pub invariant-loop-number : goal.invariant-loop-number
invariant-loop-number l =
    l.out.items ++ traces_text (names_of (program_of l.program.program)) l.places l.number (drop l.number l.traces)
    ≡ l.fn.out.items ++ traces_text (names_of (program_of l.program.program)) l.places 0 l.traces
