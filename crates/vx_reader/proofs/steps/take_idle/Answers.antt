-- The empty time is taken where all tests pass.
use Rattle.std.proofs.Common.{◌∙◌, ap, sym}
use Rattle.std.proofs.lemmas.Bool.{and_left, and_right}
use Rattle.vx_reader.specs.Fields.{number_at}
use Rattle.vx_reader.proofs.Taken.{idle_no, idle_yes, not_least, not_most}
use Rattle.vx_reader.proofs.steps.take_idle.Goals.{then-not-word_begins-via-then-not-word_begins, then-not-word_begins-via-else-not-word_begins+then-cycles-lt1, then-not-word_begins-via-else-not-word_begins+else-cycles-lt1+then-cycles-gt255, then-not-word_begins-via-else-not-word_begins+else-cycles-lt1+else-cycles-gt255+in_ok-is_idle_text+then-not-branch}
use Rattle.vx_reader.proofs.steps.take_idle.Goals as goal

pub returns : goal.returns
returns c =
    idle_yes c.args.marks.now c.args.before.now c.args.text.now c.number-cycles.result.0 (c.number-cycles.ensures.value ∙ ap (λ t. (number_at t).0) c.skip.ensures)
    (sym c.word_begins.ensures ∙ c.if-not-word_begins.false) c.if-cycles-lt1.false c.if-cycles-gt255.false (sym c.in_ok-is_idle_text.ensures ∙ c.if-not-branch.false)

pub returns-then-not-word_begins : goal.returns-then-not-word_begins
returns-then-not-word_begins c =
    idle_no c.args.marks.now c.args.before.now c.args.text.now c.number-cycles.result.0 (c.number-cycles.ensures.value ∙ ap (λ t. (number_at t).0) c.skip.ensures) (elim c.then-not-word_begins.branch [
      | then-not-word_begins-via-then-not-word_begins w ↦ and_left _ _ (and_left _ _ (and_left _ _ (sym c.word_begins.ensures ∙ w.if-not-word_begins.true)))
      | then-not-word_begins-via-else-not-word_begins+then-cycles-lt1 w ↦ and_left _ _ (and_left _ _ (and_right _ _ (not_least _ w.if-cycles-lt1.true)))
      | then-not-word_begins-via-else-not-word_begins+else-cycles-lt1+then-cycles-gt255 w ↦ and_left _ _ (and_right _ _ (not_most _ w.if-cycles-gt255.true))
      | then-not-word_begins-via-else-not-word_begins+else-cycles-lt1+else-cycles-gt255+in_ok-is_idle_text+then-not-branch w ↦ and_right _ _ (sym w.in_ok-is_idle_text.ensures ∙ w.if-not-branch.true)
    ])
