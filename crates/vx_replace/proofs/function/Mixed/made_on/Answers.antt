use Rattle.std.proofs.Common.{◌∙◌, ltb-true, sym, ap}
use Rattle.vx_mixed.specs.declared.mixed.MixedGraph.{MixedGraph}
use Rattle.vx_mixed.specs.FromGraph.{origin_edge}
use Rattle.vx_replace.proofs.Pushed.{stands_at}
use Rattle.vx_replace.proofs.function.Mixed.made_on.Goals as goal

pub returns-in-Some-Some : goal.returns-in-Some-Some
returns-in-Some-Some c =
    let l = c.in-Some-Some.ensures.lookup in
    ap origin_edge (sym (stands_at c.as_slice.result.now c.args.self.now.origins c.args.block c.in-Some-Some.field-0.now _ (c.as_slice.ensures ∙ ap (λ (m : MixedGraph). m.origins) c.self.view_is) (ltb-true _ _ (sym l.0)) l.1 c.in-Some-Some.field-0-is))

pub returns-in-Some-None : goal.returns-in-Some-None
returns-in-Some-None c =
    let l = c.in-Some-None.ensures.lookup in
    ap origin_edge (sym (stands_at c.as_slice.result.now c.args.self.now.origins c.args.block c.in-Some-None.field-0.now _ (c.as_slice.ensures ∙ ap (λ (m : MixedGraph). m.origins) c.self.view_is) (ltb-true _ _ (sym l.0)) l.1 c.in-Some-None.field-0-is))
