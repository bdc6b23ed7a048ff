-- The profile was read before the machine, and reading it changed no file.
use Rattle.std.proofs.Common.{inl, option_map}
use Rattle.std.proofs.lemmas.Result.{IfErr-weaker, IfOk-weaker}
use Rattle.vx_ast.specs.View.{program_of}
use Rattle.vx_files.specs.Effects.{effect_of}
use Rattle.vx_files.proofs.ProfileFile.{stands}
use Rattle.vx_runs.specs.Ending.{loaded_of}
use Rattle.vx_runs.proofs.FileSteps.{still_some}
use Rattle.vx_commands.proofs.Executing.{after_profile}
use Rattle.vx_commands.proofs.Loading.{profile_loaded}
use Rattle.vx_runs.proofs.Reading.{read_on}
use Rattle.vx_runs.proofs.Since.{since_read}
use Rattle.vx_commands.proofs.exec.load_profile.Goals as goal

pub returns-in-Ok-clause-only_reads : goal.returns-in-Ok-clause-only_reads
returns-in-Ok-clause-only_reads g c = let depot = g.D.Depot in read_on (depot.files c.args.depot.now) (depot.files c.counts_for.new.depot) (depot.files c.load_machine.new.depot) (depot.failed_reads c.args.depot.now) (depot.failed_reads c.counts_for.new.depot) (depot.failed_reads c.load_machine.new.depot) (depot.failed_replaces c.args.depot.now) (depot.failed_replaces c.counts_for.new.depot) (depot.failed_replaces c.load_machine.new.depot) c.in-Ok.ensures.same_files c.in-Ok.ensures.reads_never_fall c.in-Ok.ensures.replaces_never_fall c.load_machine.ensures.only_reads

pub returns-in-Err-clause-only_reads : goal.returns-in-Err-clause-only_reads
returns-in-Err-clause-only_reads g c = record { files = c.in-Err.ensures.same_files; reads = c.in-Err.ensures.reads_never_fall; replaces = c.in-Err.ensures.replaces_never_fall }

pub returns-in-Ok-clause-loaded : goal.returns-in-Ok-clause-loaded
returns-in-Ok-clause-loaded g c =
    IfOk-weaker c.load_machine.result _ _
    (λ loaded is. profile_loaded (program_of c.args.program.now.program) c.in-Ok.counts c.args.growth c.args.options.inline c.args.options.select (loaded_of loaded) (g.D.Depot.files c.args.depot.now) (g.D.Depot.files c.counts_for.new.depot)
    (option_map (λ s. s.now) c.args.profile) (option_map (λ s. s.now) c.args.machine) (option_map (λ s. s.now) c.args.input) c.in-Ok.ensures.same_files c.in-Ok.ensures.counts is)
    c.load_machine.ensures.loaded

pub returns-in-Ok-clause-stops : goal.returns-in-Ok-clause-stops
returns-in-Ok-clause-stops g c =
    let depot = g.D.Depot in
    IfErr-weaker c.load_machine.result _ _
    (λ status why. after_profile (option_map (λ s. s.now) c.args.profile) (option_map (λ s. s.now) c.args.machine) (option_map (λ s. s.now) c.args.input)
    (effect_of depot.files depot.failed_reads depot.failed_replaces c.counts_for.new.depot c.load_machine.new.depot)
    (effect_of depot.files depot.failed_reads depot.failed_replaces c.args.depot.now c.load_machine.new.depot)
    status
    (since_read (depot.files c.args.depot.now) (depot.files c.counts_for.new.depot) (depot.files c.load_machine.new.depot) (depot.failed_reads c.args.depot.now) (depot.failed_reads c.counts_for.new.depot) (depot.failed_reads c.load_machine.new.depot) (depot.failed_replaces c.args.depot.now) (depot.failed_replaces c.counts_for.new.depot) (depot.failed_replaces c.load_machine.new.depot) c.in-Ok.ensures.same_files c.in-Ok.ensures.reads_never_fall c.in-Ok.ensures.replaces_never_fall) (stands (option_map (λ s. s.now) c.args.profile) (depot.files c.args.depot.now) c.in-Ok.counts c.in-Ok.ensures.counts) why)
    c.load_machine.ensures.stops

pub returns-in-Err-clause-stops : goal.returns-in-Err-clause-stops
returns-in-Err-clause-stops g c = inl (record { named = still_some _ c.args.profile c.in-Err.ensures.named; answers = c.in-Err.ensures.answers })
