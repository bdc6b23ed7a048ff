use Rattle.std.proofs.Common.{◌&&◌, get_or, ap, sym, ◌∙◌}
use Rattle.std.specs.List.{list_all}
use Rattle.std.proofs.lemmas.List.{take_all}
use Rattle.std.proofs.lemmas.List.Folds.{list_all_at, list_all_more}
use Rattle.vx_files.specs.InputText.{is_digit}
use Rattle.vx_files.proofs.input.all_digits.Goals as goal

pub returns-then-not-digit : goal.returns-then-not-digit
returns-then-not-digit c = sym (list_all_at is_digit c.args.text.now c.loop-byte.byte-index 0 c.loop-byte-test.true (sym c.digit.ensures ∙ c.if-not-digit.true))

pub loop-byte-preserved : goal.loop-byte-preserved
loop-byte-preserved c =
    let i = c.loop-byte.byte-index in
    list_all_more is_digit c.args.text.now i 0 c.loop-byte-test.true ∙ ap (λ z. z && is_digit (get_or c.args.text.now i 0)) c.loop-byte.invariant ∙ sym c.digit.ensures ∙ c.if-not-digit.false

pub returns : goal.returns
returns c = sym c.loop-byte.invariant ∙ ap (list_all is_digit) (take_all c.loop-byte.byte-index c.args.text.now c.loop-byte-test.false)
