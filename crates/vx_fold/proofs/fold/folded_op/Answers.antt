use Rattle.std.proofs.Common.{ap, ◌∙◌}
use Rattle.vx_fold.specs.Folding.{folded, numbers_of}
use Rattle.vx_fold.proofs.FoldFlow.{folded_by}
use Rattle.vx_fold.proofs.fold.folded_op.Goals as goal

pub returns-in_default : goal.returns-in_default
returns-in_default c = folded_by (numbers_of c.args.numbers.now) c.args.op.now c.with_two.result c.folded.result c.folded-in_default.result c.with_two.ensures
    (c.folded.ensures ∙ ap (folded (numbers_of c.args.numbers.now)) c.first_operand.ensures) (c.folded-in_default.ensures ∙ ap (folded (numbers_of c.args.numbers.now)) c.second_operand.ensures) c.in_default.not-Select
