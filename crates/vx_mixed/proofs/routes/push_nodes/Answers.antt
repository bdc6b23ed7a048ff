use Rattle.std.proofs.Common.{[], ◌∷◌, ◌++◌, ◌+◌, ◌∙◌, ap, refl}
use Rattle.vx_flow.specs.declared.routes.Route.{Route}
use Rattle.vx_mixed.specs.Routes.{node_route, node_routes}
use Rattle.vx_mixed.proofs.Turns.{turn}
use Rattle.vx_mixed.proofs.routes.push_nodes.Goals as goal

pub loop-index-preserved : goal.loop-index-preserved
loop-index-preserved c =
    let starts = c.args.starts.now in
    let i = c.loop-index.index in
    let routes = c.loop-index.routes in
    turn (node_routes starts i) c.args.nodes.now i routes _ c.loop-index.invariant (node_routes starts (i + 1)) (node_route starts i c.index-nodes-index.result ∷ []) c.push.new.self c.index-nodes-index.result _
    (λ ys. refl) c.index-nodes-index.is c.loop-index-test.true (c.in_ok-push.ensures.ok ∙ ap (λ (r : Route). routes ++ r ∷ []) c.in_ok-route.ensures)
