use Rattle.std.proofs.Common.{ap, ◌∙◌}
use Rattle.vx_claims.specs.Forming.{read}
use Rattle.vx_claims.proofs.Formed.{formed_by}
use Rattle.vx_claims.proofs.forms.formed.Goals as goal

pub returns-in_default : goal.returns-in_default
returns-in_default c = formed_by c.args.facts.now c.args.op.now c.with_two.result c.read-in_default.result c.read-in_default-2.result c.with_two.ensures
    (c.read-in_default.ensures ∙ ap (read c.args.facts.now) c.first_operand.ensures) (c.read-in_default-2.ensures ∙ ap (read c.args.facts.now) c.second_operand.ensures) c.in_default.not-Compute
