use Rattle.std.proofs.Common.{◌∙◌}
use Rattle.std.proofs.lemmas.List.{take_all}
use Rattle.vx_flow.proofs.Copying.{copied_more}
use Rattle.vx_flow.proofs.copies.copied_ops.Goals as goal

pub loop-op-preserved : goal.loop-op-preserved
loop-op-preserved c = copied_more c.args.ops.now c.loop-op.copies c.push.new.self _ _ c.loop-op.op-index c.loop-op-test.true c.loop-op.invariant c.in_ok-push.ensures.ok (c.in_ok-copied_op.ensures ∙ c.op-item.is)

pub returns : goal.returns
returns c = c.loop-op.invariant ∙ take_all c.loop-op.op-index c.args.ops.now c.loop-op-test.false
