use Rattle.std.proofs.Common.{ap, ◌∙◌}
use Rattle.vx_bug.specs.Booked.{estimate_at}
use Rattle.vx_bug.proofs.ByPlace.{longer_estimates}
use Rattle.vx_bug.proofs.booked.reach_place.Goals as goal

pub reach-preserved : goal.reach-preserved
reach-preserved c = λ other. ap (λ estimates. estimate_at estimates other) c.in_ok-push.ensures.items ∙ longer_estimates c.reach.estimates.items other ∙ c.reach.invariant other
