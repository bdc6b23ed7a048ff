use Rattle.std.proofs.Common.{◌≡◌, ◌++◌, ◌-◌}
use Rattle.vx_gen.specs.Program.{call_lines}
use Rattle.vx_gen.proofs.source.push_calls.Given as goal

-- what is written and what the lines from here on still give make the whole
abbrev pub invariant-loop-number : goal.invariant-loop-number
invariant-loop-number l = l.out.items ++ call_lines l.number (l.count - l.number) ≡ l.fn.out.items ++ call_lines 0 l.count
