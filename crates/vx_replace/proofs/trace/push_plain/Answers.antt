use Rattle.std.proofs.Common.{refl}
use Rattle.vx_flow.specs.declared.trace.TraceOp.TheVariants.{Plain}
use Rattle.vx_replace.proofs.Pushed.{mapped_behind}
use Rattle.vx_replace.proofs.trace.push_plain.Goals as goal

pub loop-op-preserved : goal.loop-op-preserved
loop-op-preserved c = mapped_behind Plain _ c.args.plain.now c.loop-op.op-index _ _ _ _ c.loop-op-test.true c.loop-op.invariant c.in_ok-push.ensures.ok refl
