use Rattle.std.proofs.Common.{[], ◌∷◌, ◌++◌, ◌∙◌, List, ap, sym}
use Rattle.vx_flow.specs.declared.routes.Route.{Route}
use Rattle.vx_mixed.specs.declared.region.Item.{Item}
use Rattle.vx_mixed.specs.Routes.{word_route, word_routes}
use Rattle.vx_mixed.proofs.Turns.{turn}
use Rattle.vx_mixed.proofs.routes.push_words.Goals as goal

pub loop-word-preserved : goal.loop-word-preserved
loop-word-preserved c = λ exit.
    let node = c.loop-word.node in
    let word = c.word-item.result in
    let routes = c.loop-word.routes in
    turn (word_routes node exit) c.args.words.now c.loop-word.word-index routes _ (c.loop-word.invariant exit) (word_routes c.in_ok-next.next exit) (word_route node word ∷ []) c.push.new.self word _
    (λ ys. ap (λ n. word_route node word ∷ word_routes n exit ys) (sym c.in_ok-next.ensures)) c.word-item.is c.loop-word-test.true
    (c.in_ok-push.ensures.ok ∙ ap (λ (r : Route). routes ++ r ∷ []) c.in_ok-route.ensures ∙ ap (λ (items : List Item). routes ++ word_route node items ∷ []) c.as_slice.ensures)
