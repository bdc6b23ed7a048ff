-- The machine was read before the input, and reading it changed no file.
use Rattle.std.proofs.Common.{option_map}
use Rattle.std.proofs.lemmas.Result.{IfErr-weaker, IfOk-weaker}
use Rattle.vx_ast.specs.View.{program_of}
use Rattle.vx_files.specs.Effects.{effect_of}
use Rattle.vx_runs.specs.Ending.{loaded_of}
use Rattle.vx_runs.proofs.FileSteps.{still_some}
use Rattle.vx_commands.proofs.Executing.{later_input, later_machine}
use Rattle.vx_commands.proofs.Loading.{machine_loaded}
use Rattle.vx_runs.proofs.Reading.{read_on}
use Rattle.vx_runs.proofs.Since.{since_read}
use Rattle.vx_commands.proofs.exec.load_machine.Goals as goal

pub returns-in-Ok-clause-only_reads : goal.returns-in-Ok-clause-only_reads
returns-in-Ok-clause-only_reads g c = let depot = g.D.Depot in read_on (depot.files c.args.depot.now) (depot.files c.machine_for.new.depot) (depot.files c.load_input.new.depot) (depot.failed_reads c.args.depot.now) (depot.failed_reads c.machine_for.new.depot) (depot.failed_reads c.load_input.new.depot) (depot.failed_replaces c.args.depot.now) (depot.failed_replaces c.machine_for.new.depot) (depot.failed_replaces c.load_input.new.depot) c.in-Ok.ensures.same_files c.in-Ok.ensures.reads_never_fall c.in-Ok.ensures.replaces_never_fall c.load_input.ensures.only_reads

pub returns-in-Err-clause-only_reads : goal.returns-in-Err-clause-only_reads
returns-in-Err-clause-only_reads g c = record { files = c.in-Err.ensures.same_files; reads = c.in-Err.ensures.reads_never_fall; replaces = c.in-Err.ensures.replaces_never_fall }

pub returns-in-Ok-clause-loaded : goal.returns-in-Ok-clause-loaded
returns-in-Ok-clause-loaded g c =
    IfOk-weaker c.load_input.result _ _
    (λ loaded is. machine_loaded (program_of c.args.program.now.program) c.args.counts.now c.args.growth c.args.options.inline c.args.options.select (loaded_of loaded) (g.D.Depot.files c.args.depot.now) (g.D.Depot.files c.machine_for.new.depot)
    (option_map (λ s. s.now) c.args.machine) (option_map (λ s. s.now) c.args.input) c.in-Ok.machine c.in-Ok.ensures.same_files c.in-Ok.ensures.machine c.in-Ok.ensures.default_machine is)
    c.load_input.ensures.loaded

pub returns-in-Ok-clause-stops : goal.returns-in-Ok-clause-stops
returns-in-Ok-clause-stops g c =
    let depot = g.D.Depot in
    IfErr-weaker c.load_input.result _ _
    (λ status why. later_input (option_map (λ s. s.now) c.args.machine) (option_map (λ s. s.now) c.args.input) c.in-Ok.machine
    (effect_of depot.files depot.failed_reads depot.failed_replaces c.machine_for.new.depot c.load_input.new.depot)
    (effect_of depot.files depot.failed_reads depot.failed_replaces c.args.depot.now c.load_input.new.depot)
    status
    (since_read (depot.files c.args.depot.now) (depot.files c.machine_for.new.depot) (depot.files c.load_input.new.depot) (depot.failed_reads c.args.depot.now) (depot.failed_reads c.machine_for.new.depot) (depot.failed_reads c.load_input.new.depot) (depot.failed_replaces c.args.depot.now) (depot.failed_replaces c.machine_for.new.depot) (depot.failed_replaces c.load_input.new.depot) c.in-Ok.ensures.same_files c.in-Ok.ensures.reads_never_fall c.in-Ok.ensures.replaces_never_fall) c.in-Ok.ensures.machine why)
    c.load_input.ensures.stops

pub returns-in-Err-clause-stops : goal.returns-in-Err-clause-stops
returns-in-Err-clause-stops g c = later_machine (option_map (λ s. s.now) c.args.machine) (option_map (λ s. s.now) c.args.input)
    (effect_of g.D.Depot.files g.D.Depot.failed_reads g.D.Depot.failed_replaces c.args.depot.now c.machine_for.new.depot) c.in-Err.status (still_some _ c.args.machine c.in-Err.ensures.named) c.in-Err.ensures.answers
