use Rattle.std.proofs.Common.{◌≡◌, None, Some, ◌∙◌, sym}
use Rattle.vx_profile.proofs.Numbers.{value_end, value_more, value_over}
use Rattle.vx_profile.proofs.count_reader.value_of.Goals as goal

pub returns-in_err-value : goal.returns-in_err-value
returns-in_err-value c =
    let none : c.with_digit.result ≡ None = c.in_err-value.was in
    c.from_residual.ensures ∙ sym (value_over c.args.digits.now c.loop-digit.digit-index c.loop-digit.value c.loop-digit.invariant.same c.loop-digit-test.true (sym c.with_digit.ensures ∙ none))

pub returns : goal.returns
returns c = value_end c.args.digits.now c.loop-digit.digit-index c.loop-digit.value c.loop-digit.invariant.same c.loop-digit-test.false c.loop-digit.invariant.bound

pub loop-digit-preserved : goal.loop-digit-preserved
loop-digit-preserved c =
    let some : c.with_digit.result ≡ Some c.in_ok-value.value = c.in_ok-value.was in
    let m = value_more c.args.digits.now c.loop-digit.digit-index c.loop-digit.value c.in_ok-value.value c.loop-digit.invariant.same c.loop-digit-test.true (sym c.with_digit.ensures ∙ some) in
    record { same = m.0; bound = m.1 }
