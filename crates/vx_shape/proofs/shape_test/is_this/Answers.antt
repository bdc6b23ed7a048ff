use Rattle.std.proofs.Common.{◌≡◌, ◌∙◌, Some, None, slice_get, sym, ap, ltb-true, ltb-false}
use Rattle.std.proofs.lemmas.Option.{slice_get-get_or, slice_get_past}
use Rattle.vx_shape.specs.ShapeTest.{is_this}
use Rattle.vx_shape.proofs.shape_test.is_this.Goals as goal

pub returns-in-Some : goal.returns-in-Some
returns-in-Some c =
    let l = c.in-Some.ensures.lookup in
    let at : slice_get c.args.origins.now c.args.block ≡ Some c.in-Some.origin.now = slice_get-get_or c.args.origins.now c.args.block c.in-Some.origin.now (ltb-true _ _ (sym l.0)) ∙ ap Some (sym l.1) in
    ap (is_this c.args.from) (sym at)

pub returns-in-None : goal.returns-in-None
returns-in-None c =
    let none : slice_get c.args.origins.now c.args.block ≡ None = slice_get_past c.args.origins.now c.args.block (ltb-false _ _ (sym c.in-None.ensures.lookup.0)) in
    ap (is_this c.args.from) (sym none)
