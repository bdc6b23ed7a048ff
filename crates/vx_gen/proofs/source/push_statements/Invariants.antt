use Rattle.std.proofs.Common.{◌≡◌, ◌++◌, ◌-◌}
use Rattle.vx_gen.specs.Program.{statements}
use Rattle.vx_gen.proofs.source.push_statements.Given as goal

-- what is written and what the statements from here on still give make the whole
abbrev pub invariant-loop-statement : goal.invariant-loop-statement
invariant-loop-statement l = record {
  text : l.out.items ++ (statements (l.count - l._statement) l.reached).text ≡ l.fn.out.items ++ (statements l.count l.state).text;
  state : (statements (l.count - l._statement) l.reached).state ≡ (statements l.count l.state).state;
}
