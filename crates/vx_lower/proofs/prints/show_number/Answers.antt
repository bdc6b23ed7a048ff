use Rattle.std.proofs.Common.{refl, drop, ◌+◌}
use Rattle.vx_lower.proofs.PrintMaking.{shifts_number, drop_next}
use Rattle.vx_lower.proofs.FittingStatements.{shows_number, shows_nothing}
use Rattle.vx_lower.proofs.prints.show_number.Goals as goal

pub returns-then-next-arguments-clause-code : goal.returns-then-next-arguments-clause-code
returns-then-next-arguments-clause-code c = λ r ps texts. shifts_number _ ps (drop c.args.next c.args.arguments.now) (drop (c.args.next + 1) c.args.arguments.now) c.args.b.now c.put.new.self texts (drop_next c.args.arguments.now c.args.next _ _ c.if-next-arguments.true refl) c.in_ok-put.ensures.code r

pub returns-then-next-arguments-clause-fits : goal.returns-then-next-arguments-clause-fits
returns-then-next-arguments-clause-fits c = λ texts. shows_number c.args.arguments.now c.args.next _ _ c.args.b.now c.put.new.self texts c.if-next-arguments.true refl c.in_ok-put.ensures.steps

pub returns-clause-fits : goal.returns-clause-fits
returns-clause-fits c = λ texts. shows_nothing c.args.arguments.now c.args.b.now texts
