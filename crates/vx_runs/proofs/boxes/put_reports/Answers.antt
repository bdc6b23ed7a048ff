-- The reports so far are put, and of the next one a front.
use Rattle.std.proofs.Common.{map, ap, ◌∙◌, arith}
use Rattle.std.proofs.lemmas.List.{take_all}
use Rattle.std.specs.List.{flat_map}
use Rattle.vx_io.specs.Outside.{with_bytes}
use Rattle.vx_runs.specs.Boxes.{report_line}
use Rattle.vx_runs.proofs.Telling.{pieces_more}
use Rattle.vx_status.proofs.Appending.{pieces_cut}
use Rattle.vx_runs.proofs.boxes.put_reports.Goals as goal

pub returns-in_err-put_report-clause-puts : goal.returns-in_err-put_report-clause-puts
returns-in_err-put_report-clause-puts g c =
    pieces_cut c.from_residual.result report_line (λ b. (goal.Probe-dyn g (b.vtable, b.value)).watch b.value) c.args.probes.now c.loop-probe.probe-index c.probe-item.result c.loop-probe-test.true c.probe-item.is c.from_residual.ensures.0 c.loop-probe.invariant.told c.loop-probe.invariant.never_fall c.in_err-put_report.ensures

pub loop-probe-preserved : goal.loop-probe-preserved
loop-probe-preserved g c = record {
  told = pieces_more report_line (λ b. (goal.Probe-dyn g (b.vtable, b.value)).watch b.value) c.args.probes.now c.loop-probe.probe-index c.probe-item.result (g.E.Sink.told c.args.err.now) c.loop-probe-test.true c.probe-item.is c.loop-probe.invariant.told c.in_ok-put_report.ensures;
  never_fall = omega (arith, c.loop-probe.invariant.never_fall, c.in_ok-put_report.ensures.never_fall);
}

pub returns-clause-puts : goal.returns-clause-puts
returns-clause-puts g c = record {
  all = c.loop-probe.invariant.told
      ∙ ap (λ probes. with_bytes (g.E.Sink.told c.args.err.now) (flat_map report_line (map (λ b. (goal.Probe-dyn g (b.vtable, b.value)).watch b.value) probes))) (take_all c.loop-probe.probe-index c.args.probes.now (omega (arith, c.loop-probe-test.false)));
  part = tt;
  failed = tt;
  never_fall = c.loop-probe.invariant.never_fall;
}
