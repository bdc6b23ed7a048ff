use Rattle.std.proofs.Common.{◌≡◌, ◌++◌, ◌-◌}
use Rattle.vx_gen.specs.Program.{functions}
use Rattle.vx_gen.proofs.source.push_functions.Given as goal

-- what is written and what the functions from here on still give make the whole
abbrev pub invariant-loop-number : goal.invariant-loop-number
invariant-loop-number l = record {
  text : l.out.items ++ (functions l.size l.number (l.count - l.number) l.reached).text ≡ l.fn.out.items ++ (functions l.size 0 l.count l.state).text;
  state : (functions l.size l.number (l.count - l.number) l.reached).state ≡ (functions l.size 0 l.count l.state).state;
}
