use Rattle.std.proofs.Common.{ap, ◌∙◌}
use Rattle.vx_dep.specs.Links.{head_at}
use Rattle.vx_dep.proofs.Linked.{longer_head}
use Rattle.vx_dep.proofs.chains.reach.Goals as goal

pub reach-preserved : goal.reach-preserved
reach-preserved c = λ other. ap (λ heads. head_at heads other) c.in_ok-push.ensures.items ∙ longer_head c.reach.heads.items other ∙ c.reach.invariant other
