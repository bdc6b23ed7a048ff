-- The boxes are there, or they are not and the name is told.
use Rattle.std.proofs.Common.{refl}
use Rattle.vx_command.specs.Asked.{simulation_of}
use Rattle.vx_runs.specs.Boxes.{boxes_of}
use Rattle.vx_runs.specs.Lines.{TellsRun}
use Rattle.vx_runs.specs.Simulated.{streams_of}
use Rattle.vx_runs.proofs.Telling.{timing_told, probe_told, these_told}
use Rattle.vx_runs.proofs.Picking.{some_wanted}
use Rattle.vx_runs.proofs.Runs.{no_timing, no_probes, boxes_there}
use Rattle.vx_runs.proofs.sim.simulate_with.Goals as goal

pub returns-in-None-clause-answers : goal.returns-in-None-clause-answers
returns-in-None-clause-answers g c = no_timing (simulation_of c.args.asked.now) (boxes_of (λ b. (goal.Probe-dyn g (b.vtable, b.value)).called b.value) (λ b. (goal.Probe-dyn g (b.vtable, b.value)).watch b.value) (λ b. (goal.Timing-dyn g (b.vtable, b.value)).named b.value) (λ b. (goal.Timing-dyn g (b.vtable, b.value)).times b.value) c.args.probes.items c.args.timings.items) _ _ _ refl c.in-None.ensures c.no_box.ensures.usage

pub returns-in-Ok-clause-answers : goal.returns-in-Ok-clause-answers
returns-in-Ok-clause-answers g c = boxes_there (simulation_of c.args.asked.now) (boxes_of (λ b. (goal.Probe-dyn g (b.vtable, b.value)).called b.value) (λ b. (goal.Probe-dyn g (b.vtable, b.value)).watch b.value) (λ b. (goal.Timing-dyn g (b.vtable, b.value)).named b.value) (λ b. (goal.Timing-dyn g (b.vtable, b.value)).times b.value) c.args.probes.items c.args.timings.items) _ _ _ c.simulate.ensures.same_files _ _ c.in-Some.ensures c.in-Ok.ensures.picked c.simulate.ensures.answers

pub returns-in-Err-clause-answers : goal.returns-in-Err-clause-answers
returns-in-Err-clause-answers g c = no_probes (simulation_of c.args.asked.now) (boxes_of (λ b. (goal.Probe-dyn g (b.vtable, b.value)).called b.value) (λ b. (goal.Probe-dyn g (b.vtable, b.value)).watch b.value) (λ b. (goal.Timing-dyn g (b.vtable, b.value)).named b.value) (λ b. (goal.Timing-dyn g (b.vtable, b.value)).times b.value) c.args.probes.items c.args.timings.items) _ _ _ refl (rw c.no_probe.ensures.same c.in-Err.ensures.missing)

pub returns-in-None-clause-line : goal.returns-in-None-clause-line
returns-in-None-clause-line g c = timing_told (TellsRun (streams_of g.K.Sink.told g.K.Sink.faults g.E.Sink.told g.E.Sink.faults c.args.out.now c.args.out.now c.args.err.now c.no_box.new.err)) (streams_of g.K.Sink.told g.K.Sink.faults g.E.Sink.told g.E.Sink.faults c.args.out.now c.args.out.now c.args.err.now c.no_box.new.err) (simulation_of c.args.asked.now).timing (simulation_of c.args.asked.now).probe (boxes_of (λ b. (goal.Probe-dyn g (b.vtable, b.value)).called b.value) (λ b. (goal.Probe-dyn g (b.vtable, b.value)).watch b.value) (λ b. (goal.Timing-dyn g (b.vtable, b.value)).named b.value) (λ b. (goal.Timing-dyn g (b.vtable, b.value)).times b.value) c.args.probes.items c.args.timings.items) c.no_box.result c.in-None.ensures c.no_box.ensures.usage c.no_box.ensures.line

pub returns-in-Ok-clause-line : goal.returns-in-Ok-clause-line
returns-in-Ok-clause-line g c = these_told (TellsRun (streams_of g.K.Sink.told g.K.Sink.faults g.E.Sink.told g.E.Sink.faults c.args.out.now c.simulate.new.out c.args.err.now c.simulate.new.err)) (streams_of g.K.Sink.told g.K.Sink.faults g.E.Sink.told g.E.Sink.faults c.args.out.now c.simulate.new.out c.args.err.now c.simulate.new.err) (simulation_of c.args.asked.now).timing (simulation_of c.args.asked.now).probe (boxes_of (λ b. (goal.Probe-dyn g (b.vtable, b.value)).called b.value) (λ b. (goal.Probe-dyn g (b.vtable, b.value)).watch b.value) (λ b. (goal.Timing-dyn g (b.vtable, b.value)).named b.value) (λ b. (goal.Timing-dyn g (b.vtable, b.value)).times b.value) c.args.probes.items c.args.timings.items) _ _ _ c.simulate.result c.in-Some.ensures c.in-Ok.ensures.picked c.simulate.ensures.line

pub returns-in-Err-clause-line : goal.returns-in-Err-clause-line
returns-in-Err-clause-line g c = probe_told (TellsRun (streams_of g.K.Sink.told g.K.Sink.faults g.E.Sink.told g.E.Sink.faults c.args.out.now c.args.out.now c.args.err.now c.no_probe.new.err)) (streams_of g.K.Sink.told g.K.Sink.faults g.E.Sink.told g.E.Sink.faults c.args.out.now c.args.out.now c.args.err.now c.no_probe.new.err) (simulation_of c.args.asked.now).timing (simulation_of c.args.asked.now).probe (boxes_of (λ b. (goal.Probe-dyn g (b.vtable, b.value)).called b.value) (λ b. (goal.Probe-dyn g (b.vtable, b.value)).watch b.value) (λ b. (goal.Timing-dyn g (b.vtable, b.value)).named b.value) (λ b. (goal.Timing-dyn g (b.vtable, b.value)).times b.value) c.args.probes.items c.args.timings.items) _ c.no_probe.result c.in-Some.ensures (rw c.no_probe.ensures.same c.in-Err.ensures.missing) (λ t. t) c.no_probe.ensures.line

pub simulate-requires : goal.simulate-requires
simulate-requires g c = record { wanted = some_wanted _ c.args.asked.now.probe _ _ c.in-Ok.probes.items c.in-Ok.ensures.picked }

pub returns-in-Ok-clause-adds : goal.returns-in-Ok-clause-adds
returns-in-Ok-clause-adds g c = c.simulate.ensures.adds

pub returns-in-Ok-clause-nothing : goal.returns-in-Ok-clause-nothing
returns-in-Ok-clause-nothing g c = c.simulate.ensures.nothing

pub returns-in-Ok-clause-reads_never_fall : goal.returns-in-Ok-clause-reads_never_fall
returns-in-Ok-clause-reads_never_fall g c = c.simulate.ensures.reads_never_fall

pub returns-in-Ok-clause-replaces_never_fall : goal.returns-in-Ok-clause-replaces_never_fall
returns-in-Ok-clause-replaces_never_fall g c = c.simulate.ensures.replaces_never_fall

pub returns-in-Ok-clause-out_never_falls : goal.returns-in-Ok-clause-out_never_falls
returns-in-Ok-clause-out_never_falls g c = c.simulate.ensures.out_never_falls

pub returns-in-None-clause-adds : goal.returns-in-None-clause-adds
returns-in-None-clause-adds g c = c.no_box.ensures.adds

pub returns-in-Err-clause-adds : goal.returns-in-Err-clause-adds
returns-in-Err-clause-adds g c = c.no_probe.ensures.adds

pub returns-in-None-clause-nothing : goal.returns-in-None-clause-nothing
returns-in-None-clause-nothing g c = λ not. refl

pub returns-in-Err-clause-nothing : goal.returns-in-Err-clause-nothing
returns-in-Err-clause-nothing g c = λ not. refl
