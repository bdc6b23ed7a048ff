use Rattle.std.proofs.Common.{List, Option, Some, slice_get, ap, sym, ◌∙◌}
use Rattle.std.proofs.lemmas.Bool.{ltb-true, ltb-false}
use Rattle.std.proofs.lemmas.Option.{slice_get-get_or, slice_get_past}
use Rattle.vx_flow.specs.declared.graph.Block.{Block}
use Rattle.vx_flow.specs.Walk.{successors_in}
use Rattle.vx_flow.proofs.walk.successor.Goals as goal

pub returns-in-Some : goal.returns-in-Some
returns-in-Some c =
    let l = c.in-Some.ensures.lookup in
    c.successor_of.ensures
    ∙ ap (λ (o : Option Block). slice_get (successors_in o) c.args.number) (sym (slice_get-get_or c.as_slice.result.now c.args.block c.in-Some.found.now (ltb-true _ _ (sym l.0)) ∙ ap Some (sym l.1)))
    ∙ ap (λ (z : List Block). slice_get (successors_in (slice_get z c.args.block)) c.args.number) c.as_slice.ensures

pub returns-in-None : goal.returns-in-None
returns-in-None c =
    ap (λ (o : Option Block). slice_get (successors_in o) c.args.number) (sym (slice_get_past c.as_slice.result.now c.args.block (ltb-false _ _ (sym c.in-None.ensures.lookup.0))))
    ∙ ap (λ (z : List Block). slice_get (successors_in (slice_get z c.args.block)) c.args.number) c.as_slice.ensures
