use Rattle.std.proofs.Common.{◌∙◌, ap, ltb-false, ltb-true, sym}
use Rattle.std.specs.Prelude.{Some}
use Rattle.std.proofs.lemmas.Option.{slice_get-get_or, slice_get_past}
use Rattle.vx_clean.specs.LinkTest.{is_near, is_near_in}
use Rattle.vx_clean.proofs.link_test.starts_with.Goals as goal

pub returns-in-Some : goal.returns-in-Some
returns-in-Some c =
    let l = c.in-Some.ensures.lookup in
    c.is_near.ensures ∙ ap (is_near c.args.blocks.now c.args.block) c.as_slice.ensures ∙ ap (is_near_in c.args.blocks.now c.args.block) (sym (slice_get-get_or c.args.chains.now c.args.number _ (ltb-true _ _ (sym l.0)) ∙ ap Some (sym l.1)))

pub returns-in-None : goal.returns-in-None
returns-in-None c = ap (is_near_in c.args.blocks.now c.args.block) (sym (slice_get_past c.args.chains.now c.args.number (ltb-false _ _ (sym c.in-None.ensures.lookup.0))))
