-- so many bytes passed
use Rattle.vx_ast.specs.Tokens.{is_blank}
use Rattle.vx_lex.proofs.Lengths.{Passed}
use Rattle.vx_lex.proofs.byte.blanks_length.Given as goal

abbrev pub invariant-loop-place : goal.invariant-loop-place
invariant-loop-place l = Passed is_blank l.text l.place
