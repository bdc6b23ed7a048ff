use Rattle.std.proofs.Common.{◌≡◌, ◌↔◌, subst, sym, ap, ◌∙◌, true}
use Rattle.std.proofs.lemmas.Result.{IfOk-weaker}
use Rattle.vx_flow.specs.Live.{LiveOn, routes_from}
use Rattle.vx_flow.specs.Rows.{lives}
use Rattle.vx_flow.specs.Closing.{BeginWithin}
use Rattle.vx_flow.proofs.LiveRoutes.{routes_begin_within, live_by_routes}
use Rattle.vx_flow.proofs.liveness.live.Goals as goal

pub live_on-requires : goal.live_on-requires
live_on-requires c =
    let e : c.in_ok-routes.routes ≡ routes_from 0 c.args.graph.now.blocks = c.in_ok-routes.ensures ∙ ap (routes_from 0) c.as_slice.ensures in
    subst (λ rs. BeginWithin c.len-nodes.result rs) (sym e) (subst (λ n. BeginWithin n (routes_from 0 c.args.graph.now.blocks)) (sym c.len-nodes.ensures.len) (routes_begin_within c.args.graph.now.blocks))

pub returns : goal.returns
returns c =
    let e : c.in_ok-routes.routes ≡ routes_from 0 c.args.graph.now.blocks = c.in_ok-routes.ensures ∙ ap (routes_from 0) c.as_slice.ensures in
    record {
      exact = IfOk-weaker c.live_on.result _ _ (λ live holds b v.
          let h = subst (λ rs. (lives live b v ≡ true) ↔ LiveOn rs b v) e (holds b v) in
          let k = live_by_routes c.args.graph.now b v in
          (λ m. k.0 (h.0 m), λ l. h.1 (k.1 l))) c.live_on.ensures.exact;
    }
