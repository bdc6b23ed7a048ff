-- Each turn takes one digit more.
use Rattle.std.proofs.Common.{◌∙◌, ◌+◌, ◌*◌, min}
use Rattle.vx_files.proofs.Digits.{digit_more}
use Rattle.vx_files.proofs.input.capped_value.Goals as goal

pub loop-digit-preserved : goal.loop-digit-preserved
loop-digit-preserved c =
    digit_more c.args.digits.now c.loop-digit.digit-index c.loop-digit.value c.min-value.result c.loop-digit.invariant (c.min-value.ensures ∙ (λ k. min (10 * c.loop-digit.value + (c.from.ensures ∙ c.saturating_sub.ensures) k) 2147483649)) c.loop-digit-test.true
