use Rattle.std.proofs.Common.{◌<◌, ◌-◌, length, arith}
use Rattle.vx_trace.specs.Picked.{counted}
use Rattle.vx_trace.proofs.Readings.{counted_step, counted_here}
use Rattle.vx_trace.proofs.counts.counted.Goals as goal

pub returns-in-None : goal.returns-in-None
returns-in-None c =
    let m = c.args.mixed.now in
    counted_here (length m.nodes - c.loop-step._step) m c.loop-step.at (counted m c.args.edge) c.in-None.ensures c.loop-step.invariant.0

pub loop-step-preserved : goal.loop-step-preserved
loop-step-preserved c =
    let m = c.args.mixed.now in
    let end = c.loop-step.invariant.1 in
    let below : c.loop-step._step < length m.nodes = omega arith in
    (counted_step (length m.nodes) c.loop-step._step m c.loop-step.at c.in-Some.on (counted m c.args.edge) below c.in-Some.ensures c.loop-step.invariant.0, end)
