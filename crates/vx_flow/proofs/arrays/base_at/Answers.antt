use Rattle.std.proofs.Common.{◌≡◌, ◌∙◌, None, Some, slice_get, ap, sym, ltb-true, ltb-false}
use Rattle.std.proofs.lemmas.Option.{slice_get-get_or, slice_get_past}
use Rattle.vx_flow.specs.Sound.{base_of}
use Rattle.vx_flow.proofs.arrays.base_at.Goals as goal

pub returns-in-Some : goal.returns-in-Some
returns-in-Some c =
    let l = c.in-Some.ensures.lookup in
    let at : slice_get c.args.arrays.now c.args.array ≡ Some c.in-Some.array.now = slice_get-get_or c.args.arrays.now c.args.array c.in-Some.array.now (ltb-true _ _ (sym l.0)) ∙ ap Some (sym l.1) in
    ap base_of (sym at)

pub returns-in-None : goal.returns-in-None
returns-in-None c =
    let none : slice_get c.args.arrays.now c.args.array ≡ None = slice_get_past c.args.arrays.now c.args.array (ltb-false _ _ (sym c.in-None.ensures.lookup.0)) in
    ap base_of (sym none)
