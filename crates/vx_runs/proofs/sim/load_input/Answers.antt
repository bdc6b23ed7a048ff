-- The input is read for what was read before.
use Rattle.std.proofs.Common.{option_map}
use Rattle.vx_files.specs.Effects.{effect_of}
use Rattle.vx_runs.proofs.FileSteps.{input_loaded, input_stops, input_answers_stop, still_some}
use Rattle.vx_runs.proofs.sim.load_input.Goals as goal

pub returns-in-Ok-clause-loaded : goal.returns-in-Ok-clause-loaded
returns-in-Ok-clause-loaded g c = input_loaded (g.D.Depot.files c.args.depot.now) c.args.program c.args.machine _ c.in-Ok.input.items c.in-Ok.ensures.numbers

pub returns-in-Err-clause-stops : goal.returns-in-Err-clause-stops
returns-in-Err-clause-stops g c =
    let e = effect_of g.D.Depot.files g.D.Depot.failed_reads g.D.Depot.failed_replaces c.args.depot.now c.input_for.new.depot in
    input_stops c.args.program c.args.machine (option_map (λ s. s.now) c.args.name) e c.in-Err.status
    (input_answers_stop (option_map (λ s. s.now) c.args.name) e c.in-Err.status (still_some _ c.args.name c.in-Err.ensures.named) c.in-Err.ensures.answers)

pub returns-in-Ok-clause-same_files : goal.returns-in-Ok-clause-same_files
returns-in-Ok-clause-same_files g c = c.input_for.ensures.same_files

pub returns-in-Ok-clause-reads_never_fall : goal.returns-in-Ok-clause-reads_never_fall
returns-in-Ok-clause-reads_never_fall g c = c.input_for.ensures.reads_never_fall

pub returns-in-Ok-clause-replaces_never_fall : goal.returns-in-Ok-clause-replaces_never_fall
returns-in-Ok-clause-replaces_never_fall g c = c.input_for.ensures.replaces_never_fall

pub returns-in-Err-clause-same_files : goal.returns-in-Err-clause-same_files
returns-in-Err-clause-same_files g c = c.input_for.ensures.same_files

pub returns-in-Err-clause-reads_never_fall : goal.returns-in-Err-clause-reads_never_fall
returns-in-Err-clause-reads_never_fall g c = c.input_for.ensures.reads_never_fall

pub returns-in-Err-clause-replaces_never_fall : goal.returns-in-Err-clause-replaces_never_fall
returns-in-Err-clause-replaces_never_fall g c = c.input_for.ensures.replaces_never_fall

pub returns-in-Ok-clause-unnamed : goal.returns-in-Ok-clause-unnamed
returns-in-Ok-clause-unnamed g c = c.in-Ok.ensures.unnamed

pub returns-in-Err-clause-loaded : goal.returns-in-Err-clause-loaded
returns-in-Err-clause-loaded g c = tt

pub returns-in-Err-clause-program : goal.returns-in-Err-clause-program
returns-in-Err-clause-program g c = tt

pub returns-in-Err-clause-machine : goal.returns-in-Err-clause-machine
returns-in-Err-clause-machine g c = tt

pub returns-in-Err-clause-unnamed : goal.returns-in-Err-clause-unnamed
returns-in-Err-clause-unnamed g c = tt
