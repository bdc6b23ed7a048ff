-- One digit more: the value of the digits so far is ten times as much and the digit.
use Rattle.std.proofs.Common.{◌≡◌, ◌+◌, ◌-◌, ◌*◌, take, get_or, ◌∙◌, ap, sym, subst}
use Rattle.std.proofs.lemmas.List.{take_more}
use Rattle.vx_reader.specs.Steps.{Counts, value_from}
use Rattle.vx_reader.proofs.Counting.{value_from-append}
use Rattle.vx_reader.proofs.steps.counted.Goals as goal

pub loop-digit-preserved : goal.loop-digit-preserved
loop-digit-preserved c =
    let ds = c.args.digits.now in
    let i = c.loop-digit.digit-index in
    let d = get_or ds i 0 in
    let longer : value_from 0 (take (i + 1) ds) ≡ 10 * value_from 0 (take i ds) + (d - 48) =
    ap (value_from 0) (take_more ds i 0 c.loop-digit-test.true) ∙ value_from-append 0 (take i ds) d in
    let one : Counts c.with_digit-value.result (10 * value_from 0 (take i ds) + c.saturating_sub.result) =
    c.with_digit-value.ensures.counts (value_from 0 (take i ds)) c.loop-digit.invariant in
    let two : Counts c.with_digit-value.result (10 * value_from 0 (take i ds) + (d - 48)) =
    subst (λ k. Counts c.with_digit-value.result (10 * value_from 0 (take i ds) + k)) c.saturating_sub.ensures one in
    subst (Counts c.with_digit-value.result) (sym longer) two
