use Rattle.std.proofs.Common.{sym, ◌∙◌}
use Rattle.vx_raise.proofs.LiftSteps.{passes_one}
use Rattle.vx_raise.proofs.lift_test.may_pass.Goals as goal

pub returns-in-Some : goal.returns-in-Some
returns-in-Some c = c.stands_apart.ensures ∙ sym (passes_one c.args.arrays.now c.args.first.now c.args.second.now c.in-Some.value (sym c.result_of.ensures ∙ c.in-Some.is))
