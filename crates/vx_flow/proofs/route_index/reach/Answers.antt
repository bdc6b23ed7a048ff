use Rattle.std.proofs.Common.{ap, ◌∙◌}
use Rattle.vx_flow.specs.Closing.{mark_at}
use Rattle.vx_tables.proofs.Members.{grown}
use Rattle.vx_flow.proofs.route_index.reach.Goals as goal

pub loop-marks-preserved : goal.loop-marks-preserved
loop-marks-preserved c = λ v. ap (λ l. mark_at l v) c.in_ok-push.ensures.items ∙ grown c.loop-marks.marks.items 0 v ∙ c.loop-marks.invariant v
