use Rattle.std.proofs.Common.{◌≡◌, ◌∙◌, None, Some, slice_get, sym, ap}
use Rattle.std.proofs.lemmas.Bool.{ltb-true, ltb-false}
use Rattle.std.proofs.lemmas.Option.{slice_get-get_or, slice_get_past}
use Rattle.vx_linear.specs.Writers.{writes_there}
use Rattle.vx_bug.proofs.values.writes_at.Goals as goal

pub returns-in-Some : goal.returns-in-Some
returns-in-Some c =
    let ops = c.args.ops.now in
    let op = c.in-Some.op.now in
    let l = c.in-Some.ensures.lookup in
    let at : slice_get ops c.args.place ≡ Some op = slice_get-get_or ops c.args.place op (ltb-true _ _ (sym l.0)) ∙ ap Some (sym l.1) in
    c.writes.ensures ∙ ap (writes_there c.args.value) (sym at)

pub returns-in-None : goal.returns-in-None
returns-in-None c =
    let none : slice_get c.args.ops.now c.args.place ≡ None = slice_get_past c.args.ops.now c.args.place (ltb-false _ _ (sym c.in-None.ensures.lookup.0)) in
    ap (writes_there c.args.value) (sym none)
