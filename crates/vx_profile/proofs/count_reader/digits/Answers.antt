use Rattle.std.proofs.Common.{sym, ◌∙◌, arith}
use Rattle.std.proofs.lemmas.List.Sums.{prefix_len-drop_yes, prefix_len-drop_no, prefix_len-drop_all, prefix_len-le-length}
use Rattle.vx_profile.specs.Reading.{is_digit}
use Rattle.vx_profile.proofs.count_reader.digits.Goals as goal

pub loop-place-init : goal.loop-place-init
loop-place-init c = omega arith

pub returns-then-not-is_digit-clause-count : goal.returns-then-not-is_digit-clause-count
returns-then-not-is_digit-clause-count c = omega (arith, c.loop-place.invariant, prefix_len-drop_no is_digit c.args.text.now c.loop-place.place 0 c.loop-place-test.true (sym c.is_digit.ensures ∙ c.if-not-is_digit.true))

pub loop-place-preserved : goal.loop-place-preserved
loop-place-preserved c = omega (arith, c.loop-place.invariant, prefix_len-drop_yes is_digit c.args.text.now c.loop-place.place 0 c.loop-place-test.true (sym c.is_digit.ensures ∙ c.if-not-is_digit.false))

pub returns-clause-count : goal.returns-clause-count
returns-clause-count c =
    omega (arith, c.loop-place.invariant, prefix_len-drop_all is_digit c.args.text.now c.loop-place.place c.loop-place-test.false, prefix_len-le-length is_digit c.args.text.now)
