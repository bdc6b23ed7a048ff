use Rattle.std.proofs.Common.{◌≡◌, ◌∙◌, ap, subst, sym, true, List}
use Rattle.vx_flow.specs.declared.graph.Block.{Block}
use Rattle.vx_flow.specs.declared.graph.Graph.{Graph}
use Rattle.vx_shape.specs.ShapeTest.{is_shaped}
use Rattle.vx_fold.specs.Thinning.{unread_of}
use Rattle.vx_hoist.proofs.GrowFlow.{tested_grows}
use Rattle.vx_hoist.proofs.hoisted_flow.grown_where_shaped.Goals as goal

pub returns-in_ok-grown : goal.returns-in_ok-grown
returns-in_ok-grown c =
    let new : Graph = c.in_ok-grown.grown in
    let origins = c.as_slice-2.result.now in
    let s : is_shaped origins c.args.blocks ≡ true = sym (c.is_shaped.ensures ∙ ap (is_shaped origins) c.as_slice-3.ensures) ∙ c.if-is_shaped.true in
    let t : is_shaped origins new.blocks ≡ true = subst (λ (b : List Block). is_shaped origins b ≡ true) (sym (ap (λ (g : Graph). g.blocks) c.in_ok-grown.ensures)) s in
    tested_grows (unread_of c.args.named.now) c.args.graph.now new c.args.blocks origins c.in_ok-grown.ensures c.requires t
