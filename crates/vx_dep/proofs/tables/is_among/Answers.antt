use Rattle.std.proofs.Common.{nat_eq}
use Rattle.std.proofs.lemmas.Bool.{eq-eqb, ne_eqb}
use Rattle.vx_dep.proofs.Looking.{none_more, one_passes, none_passes}
use Rattle.vx_dep.proofs.tables.is_among.Goals as goal

pub returns-then-value-other : goal.returns-then-value-other
returns-then-value-other c = one_passes (nat_eq c.args.value) c.args.values.now c.loop-other.other-index _ c.loop-other-test.true (eq-eqb _ _ c.if-value-other.true)

pub loop-other-preserved : goal.loop-other-preserved
loop-other-preserved c = none_more (nat_eq c.args.value) c.args.values.now c.loop-other.other-index _ c.loop-other-test.true c.loop-other.invariant (ne_eqb _ _ c.if-value-other.false)

pub returns : goal.returns
returns c = none_passes (nat_eq c.args.value) c.args.values.now c.loop-other.other-index c.loop-other-test.false c.loop-other.invariant
