use Rattle.std.proofs.Common.{◌≡◌, ◌↔◌, subst, sym, ap, ◌∙◌, true}
use Rattle.std.proofs.lemmas.Result.{IfOk-weaker}
use Rattle.vx_flow.specs.Live.{LiveOn}
use Rattle.vx_flow.specs.Rows.{lives}
use Rattle.vx_flow.specs.Closing.{BeginWithin}
use Rattle.vx_inline.specs.Reaching.{call_routes}
use Rattle.vx_inline.proofs.Reaching.{reached_where_live}
use Rattle.vx_inline.proofs.called.reached.Goals as goal

pub live_on-requires : goal.live_on-requires
live_on-requires c =
    let e : c.in_ok-routes.routes ≡ call_routes 0 c.args.flow.now.functions = c.in_ok-routes.ensures ∙ ap (call_routes 0) c.as_slice.ensures in
    let w = reached_where_live c.args.flow.now in
    subst (λ rs. BeginWithin c.len-functions.result rs) (sym e) (subst (λ n. BeginWithin n (call_routes 0 c.args.flow.now.functions)) (sym c.len-functions.ensures.len) w.0)

pub returns : goal.returns
returns c =
    let e : c.in_ok-routes.routes ≡ call_routes 0 c.args.flow.now.functions = c.in_ok-routes.ensures ∙ ap (call_routes 0) c.as_slice.ensures in
    record {
      exact = IfOk-weaker c.live_on.result _ _ (λ live holds f g.
          let h = subst (λ rs. (lives live f g ≡ true) ↔ LiveOn rs f g) e (holds f g) in
          let w = reached_where_live c.args.flow.now in
          let k = w.1 f g in
          (λ m. k.0 (h.0 m), λ l. h.1 (k.1 l))) c.live_on.ensures.exact;
    }
