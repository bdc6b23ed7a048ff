use Rattle.std.proofs.Common.{ap, not, arith}
use Rattle.std.proofs.lemmas.Bool.{eq-eqb, ne_eqb}
use Rattle.std.proofs.lemmas.List.Sums.{prefix_len-drop_yes, prefix_len-drop_no, prefix_len-drop_all, prefix_len-le-length}
use Rattle.vx_reader.specs.Reading.{is_field}
use Rattle.vx_reader.proofs.operation_reader.field_end.Goals as goal

pub loop-place-init : goal.loop-place-init
loop-place-init c = omega arith

pub returns-then-byte-eq32-clause-end : goal.returns-then-byte-eq32-clause-end
returns-then-byte-eq32-clause-end c = omega (arith, c.loop-place.invariant, prefix_len-drop_no is_field c.args.text.now c.loop-place.place 0 c.loop-place-test.true (ap not (eq-eqb _ _ c.if-byte-eq32.true)))

pub loop-place-preserved : goal.loop-place-preserved
loop-place-preserved c = omega (arith, c.loop-place.invariant, prefix_len-drop_yes is_field c.args.text.now c.loop-place.place 0 c.loop-place-test.true (ap not (ne_eqb _ _ c.if-byte-eq32.false)))

pub returns-clause-end : goal.returns-clause-end
returns-clause-end c =
    omega (arith, c.loop-place.invariant, prefix_len-drop_all is_field c.args.text.now c.loop-place.place c.loop-place-test.false, prefix_len-le-length is_field c.args.text.now)
