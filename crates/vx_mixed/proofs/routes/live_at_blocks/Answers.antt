use Rattle.std.proofs.Common.{◌≡◌, ◌∙◌, sym, ap, subst, length, true}
use Rattle.std.specs.Prelude.{◌↔◌}
use Rattle.std.proofs.lemmas.Result.{IfOk-weaker}
use Rattle.vx_flow.specs.Closing.{BeginWithin}
use Rattle.vx_flow.specs.Live.{LiveOn}
use Rattle.vx_flow.specs.Rows.{lives}
use Rattle.vx_mixed.specs.Routes.{routes}
use Rattle.vx_mixed.proofs.LiveLists.{live_lists}
use Rattle.vx_mixed.proofs.RouteSteps.{begin_within}
use Rattle.vx_mixed.proofs.routes.live_at_blocks.Goals as goal

pub live_on-requires : goal.live_on-requires
live_on-requires c =
    let many : length (routes c.args.graph.now) ≡ c.len.result = ap length (sym c.in_ok-routes.ensures) ∙ sym c.len.ensures.len in
    subst (λ n. BeginWithin n c.in_ok-routes.routes) many (subst (λ rs. BeginWithin (length (routes c.args.graph.now)) rs) (sym c.in_ok-routes.ensures) (begin_within c.args.graph.now))

pub returns : goal.returns
returns c = IfOk-weaker c.live_on.result _ _ (λ rows holds. live_lists c.args.graph.now c.requires rows (λ b v. subst (λ rs. (lives rows b v ≡ true) ↔ LiveOn rs b v) c.in_ok-routes.ensures (holds b v))) c.live_on.ensures.exact
