-- The word ends where one of the tests passes.
use Rattle.std.proofs.Common.{◌∙◌, ◌∷◌, [], ◌++◌, List, ap, sym}
use Rattle.std.proofs.lemmas.Bool.{or_left, or_right}
use Rattle.vx_isa.specs.declared.operation.Operation.{Operation}
use Rattle.vx_reader.proofs.Taken.{word_end_no, word_end_yes}
use Rattle.vx_reader.proofs.steps.take_word_end.Goals.{else-not-word_begins-via-then-not-word_begins+then-not-is_at_operations+else-not-is_at_idle, else-not-word_begins-via-then-not-word_begins+else-not-is_at_operations, else-not-word_begins-via-else-not-word_begins}
use Rattle.vx_reader.proofs.steps.take_word_end.Goals as goal

pub returns : goal.returns
returns c = word_end_yes c.args.marks.now c.args.before.now c.push.new.self c.replace-ops.new.dest (elim c.else-not-word_begins.branch [
  | else-not-word_begins-via-then-not-word_begins+then-not-is_at_operations+else-not-is_at_idle w ↦ or_right _ _ (sym w.is_at_idle.ensures ∙ w.if-not-is_at_idle.false)
  | else-not-word_begins-via-then-not-word_begins+else-not-is_at_operations w ↦ or_left _ _ (or_right _ _ (sym w.is_at_operations.ensures ∙ w.if-not-is_at_operations.false))
  | else-not-word_begins-via-else-not-word_begins w ↦ or_left _ _ (or_left _ _ (sym c.word_begins.ensures ∙ w.if-not-word_begins.false))
])
    (c.in_ok-push.ensures.ok ∙ ap (λ (ops : List Operation). c.args.before.now.words ++ record { ops = ops; idle = c.args.before.now.idle } ∷ []) c.replace-ops.ensures.value) (c.replace-ops.ensures.after ∙ c.new.ensures)

pub returns-then-not-is_at_idle : goal.returns-then-not-is_at_idle
returns-then-not-is_at_idle c =
    word_end_no c.args.marks.now c.args.before.now (sym c.word_begins.ensures ∙ c.if-not-word_begins.true) (sym c.is_at_operations.ensures ∙ c.if-not-is_at_operations.true) (sym c.is_at_idle.ensures ∙ c.if-not-is_at_idle.true)
