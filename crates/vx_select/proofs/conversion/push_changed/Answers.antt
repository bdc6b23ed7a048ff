use Rattle.std.proofs.Common.{◌≡◌, ◌∙◌, List, None, slice_get, sym, ap, ltb-false}
use Rattle.std.proofs.lemmas.Option.{slice_get_past}
use Rattle.vx_flow.specs.declared.graph.Block.{Block}
use Rattle.vx_select.proofs.Joins.{none_added}
use Rattle.vx_select.proofs.conversion.push_changed.Goals as goal

pub returns-in-None : goal.returns-in-None
returns-in-None c =
    let e : slice_get c.args.graph.now.blocks c.args.place ≡ None =
    ap (λ (l : List Block). slice_get l c.args.place) (sym c.as_slice.ensures) ∙ slice_get_past c.as_slice.result.now c.args.place (ltb-false _ _ (sym c.in-None.ensures.lookup.0)) in
    none_added c.args.graph.now c.args.corners.now c.args.values.now c.args.place c.args.blocks.now e
