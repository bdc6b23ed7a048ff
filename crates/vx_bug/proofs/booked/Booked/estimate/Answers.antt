use Rattle.std.proofs.Common.{◌∙◌, ap}
use Rattle.vx_bug.specs.Booked.{estimate_at}
use Rattle.vx_bug.proofs.booked.Booked.estimate.Goals as goal

pub returns : goal.returns
returns c = c.estimate_at.ensures ∙ ap (λ es. estimate_at es c.args.place) c.as_slice.ensures.value ∙ c.args.self.now.by_place c.args.place
