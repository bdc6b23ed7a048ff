-- what stands from here on tells what stands in the whole text
use Rattle.std.proofs.Common.{◌≡◌, drop}
use Rattle.vx_ast.specs.Tokens.{before_close}
use Rattle.vx_lex.proofs.Counted.{behind}
use Rattle.vx_lex.proofs.comment.before_close.Given as goal

abbrev pub invariant-loop-place : goal.invariant-loop-place
invariant-loop-place l = behind l.place (before_close (drop l.place l.text)) ≡ before_close l.text
