-- The label is taken where all tests pass.
use Rattle.std.proofs.Common.{◌∙◌, ap, false, get_or, sym}
use Rattle.std.proofs.lemmas.Bool.{and_left, and_right}
use Rattle.vx_reader.proofs.Taken.{label_before, label_no, label_yes, other_number}
use Rattle.vx_reader.proofs.steps.take_place.Goals as goal
use Rattle.vx_reader.proofs.steps.take_place.Goals.{then-not-is_between-via-then-not-is_between, then-not-is_between-via-else-not-is_between+then-place-here, then-not-is_between-via-else-not-is_between+else-place-here+then-not-mark_at}

pub returns : goal.returns
returns c =
    label_yes c.args.marks.now c.args.before.now c.args.place c.len-here.result (sym c.is_label_before.ensures ∙ c.if-is_label_before.false) (sym c.is_between.ensures ∙ c.if-not-is_between.false)
    c.if-place-here.false c.len-here.ensures.len (sym c.mark_at.ensures ∙ c.if-not-mark_at.false)

pub returns-then-is_label_before : goal.returns-then-is_label_before
returns-then-is_label_before c = label_before c.args.marks.now c.args.before.now c.args.place (sym c.is_label_before.ensures ∙ c.if-is_label_before.true)

pub returns-then-not-is_between : goal.returns-then-not-is_between
returns-then-not-is_between c = label_no c.args.marks.now c.args.before.now c.args.place (sym c.is_label_before.ensures ∙ c.if-is_label_before.false) (elim c.then-not-is_between.branch [
  | then-not-is_between-via-then-not-is_between w ↦ and_left _ _ (and_left _ _ (sym c.is_between.ensures ∙ w.if-not-is_between.true))
  | then-not-is_between-via-else-not-is_between+then-place-here w ↦ and_left _ _ (and_right _ _ (other_number _ _ (λ same. w.if-place-here.true (same ∙ sym c.len-here.ensures.len))))
  | then-not-is_between-via-else-not-is_between+else-place-here+then-not-mark_at w ↦ and_right _ _ (ap (λ k. get_or c.args.marks.now k false) (sym c.len-here.ensures.len) ∙ sym w.mark_at.ensures ∙ w.if-not-mark_at.true)
])
