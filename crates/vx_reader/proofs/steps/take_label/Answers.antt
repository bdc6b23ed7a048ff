-- A line that is not spelled as the label of its place.
use Rattle.std.proofs.Common.{◌∙◌, ap, sym}
use Rattle.vx_reader.specs.Fields.{number_at}
use Rattle.vx_reader.proofs.Taken.{label_other}
use Rattle.vx_reader.proofs.steps.take_label.Goals as goal

pub returns-else-branch : goal.returns-else-branch
returns-else-branch c = label_other c.args.marks.now c.args.before.now c.args.text.now c.number-place.result.0 (c.number-place.ensures.value ∙ ap (λ t. (number_at t).0) c.skip.ensures) (sym c.in_ok-is_place_text.ensures ∙ c.if-branch.false)
