use Rattle.std.proofs.Common.{◌∷◌, ◌++◌, [], ◌∙◌, ap}
use Rattle.vx_replace.proofs.exchange.push_region.Goals as goal

pub returns-clause-next : goal.returns-clause-next
returns-clause-next c =
    ap (λ regions. record c.args.graph.now { regions = regions }) (c.in_ok-push.ensures.ok ∙ ap (λ g. c.args.graph.now.regions ++ g ∷ []) c.in_ok-region.ensures)
