-- so many bytes passed
use Rattle.vx_ast.specs.Tokens.{is_digit}
use Rattle.vx_lex.proofs.Lengths.{Passed}
use Rattle.vx_lex.proofs.byte.digits_length.Given as goal

abbrev pub invariant-loop-place : goal.invariant-loop-place
invariant-loop-place l = Passed is_digit l.text l.place
