use Rattle.std.proofs.Common.{◌∙◌}
use Rattle.vx_replace.proofs.Pushed.{taken_behind}
use Rattle.vx_replace.proofs.origins.push_origins.Goals as goal

pub loop-origin-preserved : goal.loop-origin-preserved
loop-origin-preserved c =
    taken_behind _ c.args.origins.now c.loop-origin.origin-index c.origin-item.result _ _ _ c.loop-origin-test.true c.loop-origin.invariant c.in_ok-push.ensures.ok (c.in_ok-copy.ensures ∙ c.origin-item.is)
