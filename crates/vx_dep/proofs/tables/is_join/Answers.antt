use Rattle.std.proofs.Common.{◌∙◌, nat_eq, Bool, ap, sym}
use Rattle.std.proofs.lemmas.Bool.{eq-eqb, ne_eqb}
use Rattle.vx_flow.specs.declared.trace.Join.{Join}
use Rattle.vx_dep.proofs.Looking.{none_more, one_passes, none_passes}
use Rattle.vx_dep.proofs.tables.is_join.Goals as goal

pub returns-then-join-place : goal.returns-then-join-place
returns-then-join-place c =
    let there : Join → Bool = λ join. nat_eq join.place c.args.place in
    one_passes there c.args.joins.now c.loop-join.join-index c.join-item.result c.loop-join-test.true (ap there (sym c.join-item.is) ∙ eq-eqb _ _ c.if-join-place.true)

pub loop-join-preserved : goal.loop-join-preserved
loop-join-preserved c =
    let there : Join → Bool = λ join. nat_eq join.place c.args.place in
    none_more there c.args.joins.now c.loop-join.join-index c.join-item.result c.loop-join-test.true c.loop-join.invariant (ap there (sym c.join-item.is) ∙ ne_eqb _ _ c.if-join-place.false)

pub returns : goal.returns
returns c =
    let there : Join → Bool = λ join. nat_eq join.place c.args.place in
    none_passes there c.args.joins.now c.loop-join.join-index c.loop-join-test.false c.loop-join.invariant
