-- what stands from here on tells what stands in the whole string
use Rattle.std.proofs.Common.{◌≡◌, drop, false}
use Rattle.vx_ast.specs.Tokens.{before_bad_escape}
use Rattle.vx_lex.proofs.Counted.{behind}
use Rattle.vx_lex.proofs.quoted.before_bad_escape.Given as goal

abbrev pub invariant-loop-place : goal.invariant-loop-place
invariant-loop-place l = behind l.place (before_bad_escape l.escaped (drop l.place l.inner)) ≡ before_bad_escape false l.inner
