use Rattle.std.proofs.Common.{◌≡◌, ◌++◌, map, take, drop}
use Rattle.vx_probe.specs.Watch.{shown}
use Rattle.vx_sim.proofs.steps.show.Given as goal

abbrev pub invariant-loop-probe : goal.invariant-loop-probe
invariant-loop-probe g l =
    map (λ b. (goal.Probe-dyn g (b.vtable, b.value)).watch b.value) l.probe-items
    ≡ map (λ w. shown w l.event) (take l.probe-index (map (λ b. (goal.Probe-dyn g (b.vtable, b.value)).watch b.value) l.fn.probes.items)) ++ drop l.probe-index (map (λ b. (goal.Probe-dyn g (b.vtable, b.value)).watch b.value) l.fn.probes.items)
