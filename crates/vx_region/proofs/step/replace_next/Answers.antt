use Rattle.std.proofs.Common.{refl, subst}
use Rattle.vx_trace.specs.Picked.{Picks}
use Rattle.vx_region.proofs.step.replace_next.Goals as goal

pub returns-in-None-clause-finished : goal.returns-in-None-clause-finished
returns-in-None-clause-finished c =
    let none = subst (Picks c.args.mixed.now c.args.counts.now) c.in-None.is c.in_ok-pick.ensures in
    (λ b block e. none b (block, e), refl, refl)
