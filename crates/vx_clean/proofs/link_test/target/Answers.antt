use Rattle.std.proofs.Common.{◌∙◌, ap, ltb-false, ltb-true, sym}
use Rattle.std.specs.Prelude.{Some}
use Rattle.std.proofs.lemmas.Option.{slice_get-get_or, slice_get_past}
use Rattle.vx_clean.specs.LinkTest.{number_or_zero}
use Rattle.vx_clean.proofs.link_test.target.Goals as goal

pub returns-in-Some : goal.returns-in-Some
returns-in-Some c =
    let l = c.in-Some.ensures.lookup in
    ap number_or_zero (sym (slice_get-get_or c.args.to.now c.args.block _ (ltb-true _ _ (sym l.0)) ∙ ap Some (sym l.1)))

pub returns-in-None : goal.returns-in-None
returns-in-None c = ap number_or_zero (sym (slice_get_past c.args.to.now c.args.block (ltb-false _ _ (sym c.in-None.ensures.lookup.0))))
