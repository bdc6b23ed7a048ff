-- What was read is run, or the reading of the files stopped the command.
use Rattle.std.proofs.Common.{refl}
use Rattle.vx_files.specs.Effects.{effect_of}
use Rattle.vx_command.specs.Asked.{simulation_of}
use Rattle.vx_runs.specs.Ending.{loaded_of}
use Rattle.vx_runs.specs.Simulated.{streams_of}
use Rattle.vx_runs.proofs.Telling.{run_told}
use Rattle.vx_runs.proofs.Runs.{run_loaded_answers, stops_told, wanted_for}
use Rattle.vx_runs.proofs.sim.simulate.Goals as goal

pub returns-in-Ok-clause-answers : goal.returns-in-Ok-clause-answers
returns-in-Ok-clause-answers g c =
    run_loaded_answers (simulation_of c.args.asked.now) (loaded_of c.in-Ok.loaded) _ _ _ _ c.in-Ok.ensures.loaded c.in-Ok.ensures.spells (record { machine_is = c.in-Ok.ensures.default_machine; input_is = c.in-Ok.ensures.unnamed }) (wanted_for _ c.args.probes.items _ c.args.asked.now.probe c.requires.wanted) c.run_loaded.result c.run_loaded.ensures.answers

pub returns-in-Err-clause-answers : goal.returns-in-Err-clause-answers
returns-in-Err-clause-answers g c = stops_told (simulation_of c.args.asked.now) _
    (effect_of g.D.Depot.files g.D.Depot.failed_reads g.D.Depot.failed_replaces c.args.depot.now c.load.new.depot) _ c.in-Err.status c.tell.result c.tell.ensures.same c.in-Err.ensures.stops

pub returns-in-Ok-clause-same_files : goal.returns-in-Ok-clause-same_files
returns-in-Ok-clause-same_files g c = c.load.ensures.same_files

pub returns-in-Ok-clause-reads_never_fall : goal.returns-in-Ok-clause-reads_never_fall
returns-in-Ok-clause-reads_never_fall g c = c.load.ensures.reads_never_fall

pub returns-in-Ok-clause-replaces_never_fall : goal.returns-in-Ok-clause-replaces_never_fall
returns-in-Ok-clause-replaces_never_fall g c = c.load.ensures.replaces_never_fall

pub returns-in-Err-clause-same_files : goal.returns-in-Err-clause-same_files
returns-in-Err-clause-same_files g c = c.load.ensures.same_files

pub returns-in-Err-clause-reads_never_fall : goal.returns-in-Err-clause-reads_never_fall
returns-in-Err-clause-reads_never_fall g c = c.load.ensures.reads_never_fall

pub returns-in-Err-clause-replaces_never_fall : goal.returns-in-Err-clause-replaces_never_fall
returns-in-Err-clause-replaces_never_fall g c = c.load.ensures.replaces_never_fall

pub returns-in-Ok-clause-line : goal.returns-in-Ok-clause-line
returns-in-Ok-clause-line g c = c.run_loaded.ensures.line

pub returns-in-Ok-clause-adds : goal.returns-in-Ok-clause-adds
returns-in-Ok-clause-adds g c = c.run_loaded.ensures.adds

pub returns-in-Ok-clause-nothing : goal.returns-in-Ok-clause-nothing
returns-in-Ok-clause-nothing g c = c.run_loaded.ensures.nothing

pub returns-in-Ok-clause-out_never_falls : goal.returns-in-Ok-clause-out_never_falls
returns-in-Ok-clause-out_never_falls g c = c.run_loaded.ensures.out_never_falls

pub returns-in-Err-clause-line : goal.returns-in-Err-clause-line
returns-in-Err-clause-line g c = run_told (streams_of g.K.Sink.told g.K.Sink.faults g.E.Sink.told g.E.Sink.faults c.args.out.now c.args.out.now c.args.err.now c.tell.new.err) c.tell.result c.tell.ensures.tells

pub returns-in-Err-clause-adds : goal.returns-in-Err-clause-adds
returns-in-Err-clause-adds g c = c.tell.ensures.adds

pub returns-in-Err-clause-nothing : goal.returns-in-Err-clause-nothing
returns-in-Err-clause-nothing g c = λ not. refl
