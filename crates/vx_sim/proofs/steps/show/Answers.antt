use Rattle.std.proofs.Common.{map, arith}
use Rattle.vx_probe.specs.Watch.{shown}
use Rattle.vx_sim.proofs.Showing.{shown_more}
use Rattle.vx_sim.proofs.steps.show.Goals as goal

pub loop-probe-preserved : goal.loop-probe-preserved
loop-probe-preserved g c =
    shown_more c.loop-probe.probe-items (λ b. (goal.Probe-dyn g (b.vtable, b.value)).watch b.value) (λ w. shown w c.args.event.now) (map (λ b. (goal.Probe-dyn g (b.vtable, b.value)).watch b.value) c.args.probes.now.items) c.loop-probe.probe-index c.probe-item.result c.see.new.probe
    (omega (arith, c.loop-probe-test.true, c.loop-probe.auto.probe-items)) c.loop-probe.invariant c.see.ensures
