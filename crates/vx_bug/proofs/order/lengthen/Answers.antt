use Rattle.std.proofs.Common.{ap, ◌∙◌}
use Rattle.vx_flow.specs.Rows.{is_marked}
use Rattle.vx_bug.proofs.Marks.{longer_marks}
use Rattle.vx_bug.proofs.order.lengthen.Goals as goal

pub grow-preserved : goal.grow-preserved
grow-preserved c = λ i. ap (λ marks. is_marked marks i) c.in_ok-push.ensures.items ∙ longer_marks c.grow.marks.items i ∙ c.grow.invariant i
