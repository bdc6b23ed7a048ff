-- so many bytes passed
use Rattle.vx_ast.specs.Tokens.{is_in_line}
use Rattle.vx_lex.proofs.Lengths.{Passed}
use Rattle.vx_lex.proofs.byte.line_length.Given as goal

abbrev pub invariant-loop-place : goal.invariant-loop-place
invariant-loop-place l = Passed is_in_line l.text l.place
