-- The reports so far are put.
use Rattle.std.proofs.Common.{◌≡◌, ◌≤◌, map, take}
use Rattle.std.specs.List.{flat_map}
use Rattle.vx_io.specs.Outside.{with_bytes}
use Rattle.vx_runs.specs.Boxes.{report_line}
use Rattle.vx_runs.proofs.boxes.put_reports.Given as goal

abbrev pub invariant-loop-probe : goal.invariant-loop-probe
invariant-loop-probe g l = record {
  told : g.E.Sink.told l.err ≡ with_bytes (g.E.Sink.told l.fn.err) (flat_map report_line (map (λ b. (goal.Probe-dyn g (b.vtable, b.value)).watch b.value) (take l.probe-index l.probes)));
  never_fall : g.E.Sink.faults l.fn.err ≤ g.E.Sink.faults l.err;
}
