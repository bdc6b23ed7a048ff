-- The text is taken where both tests pass.
use Rattle.std.proofs.Common.{◌∙◌, sym}
use Rattle.std.proofs.lemmas.Bool.{and_left, and_right}
use Rattle.vx_reader.proofs.Taken.{text_no, text_yes}
use Rattle.vx_reader.proofs.steps.take_text.Goals.{then-not-is_at_texts-via-then-not-is_at_texts, then-not-is_at_texts-via-else-not-is_at_texts+in_ok-is_quoted+then-not-branch}
use Rattle.vx_reader.proofs.steps.take_text.Goals as goal

pub returns : goal.returns
returns c = text_yes c.args.before.now c.args.text.now c.in_ok-bytes.bytes c.push.new.self c.in_ok-bytes.ensures (sym c.is_at_texts.ensures ∙ c.if-not-is_at_texts.false) (sym c.in_ok-is_quoted.ensures ∙ c.if-not-branch.false) c.in_ok-push.ensures.ok

pub returns-then-not-is_at_texts : goal.returns-then-not-is_at_texts
returns-then-not-is_at_texts c = text_no c.args.before.now c.args.text.now c.in_ok-bytes.bytes c.in_ok-bytes.ensures (elim c.then-not-is_at_texts.branch [
  | then-not-is_at_texts-via-then-not-is_at_texts w ↦ and_left _ _ (sym c.is_at_texts.ensures ∙ w.if-not-is_at_texts.true)
  | then-not-is_at_texts-via-else-not-is_at_texts+in_ok-is_quoted+then-not-branch w ↦ and_right _ _ (sym w.in_ok-is_quoted.ensures ∙ w.if-not-branch.true)
])
