use Rattle.std.proofs.Common.{◌≡◌, ◌∙◌, ap, sym, true}
use Rattle.vx_flow.specs.declared.graph.Graph.{Graph}
use Rattle.vx_shape.specs.ShapeTest.{is_shaped}
use Rattle.vx_fold.proofs.ThinFlow.{tested_thins}
use Rattle.vx_fold.proofs.thin.thinned_where_shaped.Goals as goal

pub returns-then-is_shaped : goal.returns-then-is_shaped
returns-then-is_shaped c =
    let new : Graph = c.in_ok-thinned.thinned in
    let origins = c.as_slice-2.result.now in
    let s : is_shaped origins new.blocks ≡ true = sym (c.is_shaped.ensures ∙ ap (is_shaped origins) c.as_slice-3.ensures) ∙ c.if-is_shaped.true in
    tested_thins c.args.needed.now c.args.graph.now new origins c.in_ok-thinned.ensures c.requires s
