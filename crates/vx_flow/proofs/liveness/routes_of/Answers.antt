use Rattle.std.proofs.Common.{◌≡◌, ◌+◌, ◌∷◌, ◌++◌, [], suc, take, sym, ap, ◌∙◌, subst, arith}
use Rattle.std.proofs.lemmas.List.{take_all}
use Rattle.vx_flow.specs.Live.{route_of, routes_from}
use Rattle.vx_flow.proofs.LiveRoutes.{routes_more}
use Rattle.vx_flow.proofs.liveness.routes_of.Goals as goal

pub loop-index-preserved : goal.loop-index-preserved
loop-index-preserved c =
    let i = c.loop-index.index in
    let bs = c.args.blocks.now in
    let k = c.index-blocks-index.result in
    let a : suc i ≡ i + 1 = omega arith in
    let z : 0 + i ≡ i = omega arith in
    let m = routes_more 0 bs i k c.loop-index-test.true c.index-blocks-index.is in
    let n : routes_from 0 (take (i + 1) bs) ≡ routes_from 0 (take i bs) ++ route_of i k ∷ [] = subst (λ j. routes_from 0 (take j bs) ≡ routes_from 0 (take i bs) ++ route_of i k ∷ []) a (m ∙ ap (λ j. routes_from 0 (take i bs) ++ route_of j k ∷ []) z) in
    c.in_ok-push.ensures.ok ∙ ap (λ l. l ++ c.in_ok-route.route ∷ []) c.loop-index.invariant ∙ ap (λ r. routes_from 0 (take i bs) ++ r ∷ []) c.in_ok-route.ensures ∙ sym n

pub returns : goal.returns
returns c = c.loop-index.invariant ∙ ap (routes_from 0) (take_all c.loop-index.index c.args.blocks.now c.loop-index-test.false)
