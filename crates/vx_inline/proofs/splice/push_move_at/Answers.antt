use Rattle.std.proofs.Common.{◌≡◌, ◌∙◌, ◌++◌, None, slice_get, sym, ap, append-nil}
use Rattle.std.proofs.lemmas.Bool.{ltb-false}
use Rattle.std.proofs.lemmas.Option.{slice_get_past}
use Rattle.vx_inline.specs.Splicing.{move_at}
use Rattle.vx_inline.proofs.splice.push_move_at.Goals as goal

pub returns-in-None : goal.returns-in-None
returns-in-None c =
    let none : slice_get c.args.arguments.now c.args.place ≡ None = slice_get_past c.args.arguments.now c.args.place (ltb-false _ _ (sym c.in-None.ensures.lookup.0)) in
    sym (ap (λ o. c.args.ops.now ++ move_at c.args.to o) none ∙ append-nil c.args.ops.now)
