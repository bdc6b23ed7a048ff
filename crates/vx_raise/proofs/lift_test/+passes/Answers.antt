use Rattle.std.proofs.Common.{sym, ◌∙◌}
use Rattle.vx_raise.proofs.LiftSteps.{passes_more}
use Rattle.vx_raise.proofs.lift_test.+passes.Goals as goal

pub returns-then-may_pass : goal.returns-then-may_pass
returns-then-may_pass t c = c.passes.ensures ∙ passes_more c.args.arrays.now c.args.op.now c.in-Some.first.now c.args.place c.args.ops.now c.in-Some.rest.now c.if-place-eq0.false c.in-Some.ensures.cases.0 (sym c.may_pass.ensures ∙ c.if-may_pass.true)
