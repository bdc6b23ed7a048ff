-- The operation of the form that the name has.
use Rattle.std.proofs.Common.{◌∙◌, ap, sym}
use Rattle.std.proofs.lemmas.Bool.{and_left, and_right}
use Rattle.vx_reader.specs.Forms.{candidate}
use Rattle.vx_reader.proofs.Taken.{operation_no, operation_yes, read_by}
use Rattle.vx_reader.proofs.operation_reader.read_operation.Goals.{else-branch-via-then-branch+else-operands_are_named, else-branch-via-else-branch}
use Rattle.vx_reader.proofs.operation_reader.read_operation.Goals as goal

pub returns-then-operands_are_named : goal.returns-then-operands_are_named
returns-then-operands_are_named c =
    let op = c.candidate_of-operation.result in
    let text = c.args.text.now in
    read_by c.args.cluster text c.field_end-end.result c.in-Some.form op c.field_end-end.ensures.end (sym c.form_named.ensures ∙ c.in-Some.is) (c.candidate_of-operation.ensures ∙ ap (candidate c.args.cluster c.in-Some.form) c.skip.ensures)
    ∙ operation_yes op text (sym c.in_ok-is_of_form-in-Some.ensures ∙ c.if-branch.true) (sym c.operands_are_named.ensures ∙ c.if-operands_are_named.true)

pub returns-else-branch : goal.returns-else-branch
returns-else-branch c =
    let op = c.candidate_of-operation.result in
    let text = c.args.text.now in
    read_by c.args.cluster text c.field_end-end.result c.in-Some.form op c.field_end-end.ensures.end (sym c.form_named.ensures ∙ c.in-Some.is) (c.candidate_of-operation.ensures ∙ ap (candidate c.args.cluster c.in-Some.form) c.skip.ensures)
    ∙ operation_no op text (elim c.else-branch.branch [
      | else-branch-via-then-branch+else-operands_are_named w ↦ and_right _ _ (sym w.operands_are_named.ensures ∙ w.if-operands_are_named.false)
      | else-branch-via-else-branch w ↦ and_left _ _ (sym c.in_ok-is_of_form-in-Some.ensures ∙ w.if-branch.false)
    ])
