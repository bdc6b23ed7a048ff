use Rattle.std.proofs.Common.{◌≡◌, ◌++◌, drop}
use Rattle.vx_gen.specs.Program.{filled, in_expression}
use Rattle.vx_gen.proofs.forms.fill_expression.Given as goal

-- what is written and what the letters from here on still give make the whole
abbrev pub invariant-loop-letter : goal.invariant-loop-letter
invariant-loop-letter l = record {
  text : l.out.items ++ (filled in_expression (drop l.letter-index l.form) l.reached).text ≡ l.fn.out.items ++ (filled in_expression l.form l.state).text;
  state : (filled in_expression (drop l.letter-index l.form) l.reached).state ≡ (filled in_expression l.form l.state).state;
}
