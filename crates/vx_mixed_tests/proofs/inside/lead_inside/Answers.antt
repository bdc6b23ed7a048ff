use Rattle.std.proofs.Common.{sym, ◌∙◌}
use Rattle.vx_mixed_tests.proofs.Insides.{inside}
use Rattle.vx_mixed_tests.proofs.inside.lead_inside.Goals as goal

pub returns : goal.returns
returns c = λ h. inside c.args.words.now (sym c.all_lead.ensures ∙ h)
