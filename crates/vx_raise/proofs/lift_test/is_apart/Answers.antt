use Rattle.std.proofs.Common.{sym, ◌∙◌}
use Rattle.vx_flow.specs.Effects.{reads}
use Rattle.vx_raise.proofs.LiftSteps.{apart_one}
use Rattle.vx_raise.proofs.lift_test.is_apart.Goals as goal

pub returns-in-Some : goal.returns-in-Some
returns-in-Some c = c.is_unread.ensures ∙ sym (apart_one c.args.first.now c.in-Some.value (reads c.args.second.now) (sym c.written_by.ensures ∙ c.in-Some.is))
