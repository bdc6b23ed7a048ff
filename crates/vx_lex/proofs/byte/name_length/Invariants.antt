-- so many bytes passed
use Rattle.vx_ast.specs.Tokens.{is_name_byte}
use Rattle.vx_lex.proofs.Lengths.{Passed}
use Rattle.vx_lex.proofs.byte.name_length.Given as goal

abbrev pub invariant-loop-place : goal.invariant-loop-place
invariant-loop-place l = Passed is_name_byte l.text l.place
