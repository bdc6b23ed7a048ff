use Rattle.std.proofs.Common.{◌∙◌, ap, ltb-false, ltb-true, sym}
use Rattle.std.specs.Prelude.{Some}
use Rattle.std.proofs.lemmas.Option.{slice_get-get_or, slice_get_past}
use Rattle.vx_clean.specs.Laying.{ops_at}
use Rattle.vx_clean.proofs.chain_graph.ops_at.Goals as goal

pub returns-in-Some : goal.returns-in-Some
returns-in-Some c =
    let l = c.in-Some.ensures.lookup in
    c.as_slice.ensures ∙ ap ops_at (sym (slice_get-get_or c.args.blocks.now c.args.block _ (ltb-true _ _ (sym l.0)) ∙ ap Some (sym l.1)))

pub returns-in-None : goal.returns-in-None
returns-in-None c = ap ops_at (sym (slice_get_past c.args.blocks.now c.args.block (ltb-false _ _ (sym c.in-None.ensures.lookup.0))))
