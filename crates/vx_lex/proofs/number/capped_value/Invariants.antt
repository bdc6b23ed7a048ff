-- the value of the digits so far, capped
use Rattle.std.proofs.Common.{◌≡◌, take, min}
use Rattle.vx_ast.specs.Tokens.{value_of_digits}
use Rattle.vx_lex.proofs.number.capped_value.Given as goal

abbrev pub invariant-loop-digit : goal.invariant-loop-digit
invariant-loop-digit l = l.value ≡ min 2147483648 (value_of_digits l.base (take l.digit-index l.digits))
