use Rattle.std.proofs.Common.{◌∙◌, ap, ltb-false, ltb-true, sym}
use Rattle.std.specs.Prelude.{Some}
use Rattle.std.proofs.lemmas.Option.{slice_get-get_or, slice_get_past}
use Rattle.vx_fold.specs.Thinning.{is_marked_unread}
use Rattle.vx_fold.proofs.reads.is_unneeded.Goals as goal

pub returns-in-Some : goal.returns-in-Some
returns-in-Some c =
    let l = c.in-Some.ensures.lookup in
    ap is_marked_unread (sym (slice_get-get_or c.args.needed.now c.args.value _ (ltb-true _ _ (sym l.0)) ∙ ap Some (sym l.1)))

pub returns-in-None : goal.returns-in-None
returns-in-None c = ap is_marked_unread (sym (slice_get_past c.args.needed.now c.args.value (ltb-false _ _ (sym c.in-None.ensures.lookup.0))))
