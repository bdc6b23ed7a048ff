-- A text of a number, in its range or not, and one of none.
use Rattle.std.proofs.Common.{◌≤◌, ◌<◌, ◌^◌, ℕ, arith}
use Rattle.vx_command.proofs.RunFound.{number_within, number_none, below}
use Rattle.vx_command.proofs.options.number_in.Goals as goal

pub returns-in-Ok-clause-number : goal.returns-in-Ok-clause-number
returns-in-Ok-clause-number c = λ other.
    let wide : c.args.high < 2 ^ 64 = let range = c.ranges.high in omega arith in
    let fits : (n : ℕ) → n ≤ c.args.high → n < 2 ^ 64 = λ n is. below c.args.high (2 ^ 64) n wide is in
    number_within 64 c.args.low c.args.high other fits fits c.args.text.now c.in-Ok.number c.parse.result c.ranged.result c.parse.ensures.value.0 c.in-Ok.is c.ranged.ensures

pub returns-in-Err-clause-number : goal.returns-in-Err-clause-number
returns-in-Err-clause-number c = λ other.
    let wide : c.args.high < 2 ^ 64 = let range = c.ranges.high in omega arith in
    let fits : (n : ℕ) → n ≤ c.args.high → n < 2 ^ 64 = λ n is. below c.args.high (2 ^ 64) n wide is in
    number_none 64 c.args.low c.args.high other fits fits c.args.text.now c.in-Err.field-0 c.parse.result c.parse.ensures.value.0 c.in-Err.is
