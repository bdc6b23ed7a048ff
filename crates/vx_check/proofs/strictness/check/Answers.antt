use Rattle.std.proofs.Common.{◌≡◌}
use Rattle.std.proofs.lemmas.Result.{IfOk-weaker}
use Rattle.vx_check.specs.declared.verdict.Verdict.TheVariants.{Yes}
use Rattle.vx_check.specs.Checked.{Checks}
use Rattle.vx_check.proofs.Verdicts.{one_verdict}
use Rattle.vx_check.proofs.strictness.check.Goals as goal

pub returns-clause-passes : goal.returns-clause-passes
returns-clause-passes c = λ strict.
    IfOk-weaker c.verdict_of.result (λ verdict. Checks c.args.machine.now c.args.program.now verdict) (λ verdict. verdict ≡ Yes)
    (λ verdict checks. one_verdict c.args.machine.now c.args.program.now verdict Yes checks strict) c.verdict_of.ensures
