-- what stands from here on tells what stands in the whole text
use Rattle.std.proofs.Common.{◌≡◌, drop, false}
use Rattle.vx_ast.specs.Tokens.{before_quote}
use Rattle.vx_lex.proofs.Counted.{behind}
use Rattle.vx_lex.proofs.quoted.before_quote.Given as goal

abbrev pub invariant-loop-place : goal.invariant-loop-place
invariant-loop-place l = behind l.place (before_quote l.escaped (drop l.place l.text)) ≡ before_quote false l.text
