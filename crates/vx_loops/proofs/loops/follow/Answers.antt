use Rattle.std.proofs.Common.{subst, sym}
use Rattle.vx_loops.specs.Path.{Way}
use Rattle.vx_loops.specs.Path.Way.{begun, longer}
use Rattle.vx_loops.proofs.loops.follow.Goals as goal

pub loop-init : goal.loop-init
loop-init c = subst (λ z. Way c.args.blocks.now c.args.first c.args.first z) (sym c.requires) begun

pub loop-preserved : goal.loop-preserved
loop-preserved c = subst (λ z. Way c.args.blocks.now c.args.first c.in-Some.next z) (sym c.in_ok-push-in-Some.ensures.items) (longer c.loop.invariant c.in-Some.ensures)
