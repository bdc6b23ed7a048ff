use Rattle.std.proofs.Common.{◌∙◌, sym}
use Rattle.vx_inline.specs.Inlined.{kind_place}
use Rattle.vx_inline.proofs.Placing.{kind_next}
use Rattle.vx_inline.proofs.places.kind_place.Goals as goal

pub loop-kind-preserved : goal.loop-kind-preserved
loop-kind-preserved c =
    let kinds = c.args.kinds.now in
    kind_next kinds c.args.exit.now c.loop-kind.kind-index c.loop-kind.place c.in_ok-place.place (kind_place kinds c.args.exit.now) _ c.loop-kind-test.true (sym c.ends_by.ensures ∙ c.if-ends_by.false) c.loop-kind.invariant c.in_ok-place.ensures
