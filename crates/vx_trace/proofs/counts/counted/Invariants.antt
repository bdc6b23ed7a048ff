-- after the steps that are left it is the edge
use Rattle.std.proofs.Common.{◌≡◌, ◌-◌, length}
use Rattle.vx_trace.specs.Picked.{counted, counted_after}
use Rattle.vx_trace.proofs.counts.counted.Given as goal

abbrev pub invariant-loop-step : goal.invariant-loop-step
invariant-loop-step l = (counted_after (length l.mixed.nodes - l._step) l.mixed l.at ≡ counted l.mixed l.fn.edge) × (l._step-end ≡ length l.mixed.nodes)
