use Rattle.std.proofs.Common.{◌≡◌, ◌+◌, ◌∷◌, ◌++◌, [], suc, take, sym, ap, ◌∙◌, subst, arith}
use Rattle.vx_inline.specs.Reaching.{call_route, call_routes}
use Rattle.vx_inline.proofs.Reaching.{routes_more}
use Rattle.vx_inline.proofs.called.routes_of.Goals as goal

pub loop-index-preserved : goal.loop-index-preserved
loop-index-preserved c =
    let i = c.loop-index.index in
    let gs = c.args.functions.now in
    let g = c.index-functions-index.result in
    let a : suc i ≡ i + 1 = omega arith in
    let z : 0 + i ≡ i = omega arith in
    let m = routes_more 0 gs i g c.loop-index-test.true c.index-functions-index.is in
    let n : call_routes 0 (take (i + 1) gs) ≡ call_routes 0 (take i gs) ++ call_route i g ∷ [] = subst (λ j. call_routes 0 (take j gs) ≡ call_routes 0 (take i gs) ++ call_route i g ∷ []) a (m ∙ ap (λ j. call_routes 0 (take i gs) ++ call_route j g ∷ []) z) in
    c.in_ok-push.ensures.ok ∙ ap (λ l. l ++ c.in_ok-route.route ∷ []) c.loop-index.invariant ∙ ap (λ r. call_routes 0 (take i gs) ++ r ∷ []) c.in_ok-route.ensures ∙ sym n
