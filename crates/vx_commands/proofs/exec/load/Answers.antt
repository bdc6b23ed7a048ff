-- The source was read and rewritten before all else, and that changed no file.
use Rattle.std.proofs.Common.{inl, inr}
use Rattle.std.proofs.lemmas.Result.{IfErr-weaker, IfOk-weaker}
use Rattle.vx_ast.specs.View.{program_of}
use Rattle.vx_files.specs.Effects.{effect_of}
use Rattle.vx_command.specs.Asked.{execution_of}
use Rattle.vx_runs.specs.Ending.{loaded_of}
use Rattle.vx_commands.proofs.Executing.{after_source, prepared}
use Rattle.vx_runs.proofs.Reading.{read_on}
use Rattle.vx_runs.proofs.Since.{since_read}
use Rattle.vx_commands.proofs.exec.load.Goals as goal

pub returns-in-Ok-clause-only_reads : goal.returns-in-Ok-clause-only_reads
returns-in-Ok-clause-only_reads g c = let depot = g.D.Depot in read_on (depot.files c.args.depot.now) (depot.files c.read_rewritten.new.depot) (depot.files c.load_profile-loaded.new.depot) (depot.failed_reads c.args.depot.now) (depot.failed_reads c.read_rewritten.new.depot) (depot.failed_reads c.load_profile-loaded.new.depot) (depot.failed_replaces c.args.depot.now) (depot.failed_replaces c.read_rewritten.new.depot) (depot.failed_replaces c.load_profile-loaded.new.depot) c.in-Ok.ensures.same_files c.in-Ok.ensures.reads_never_fall c.in-Ok.ensures.replaces_never_fall c.load_profile-loaded.ensures.only_reads

pub returns-in-Err-clause-only_reads : goal.returns-in-Err-clause-only_reads
returns-in-Err-clause-only_reads g c = record { files = c.in-Err.ensures.same_files; reads = c.in-Err.ensures.reads_never_fall; replaces = c.in-Err.ensures.replaces_never_fall }

pub returns-in-Ok-clause-loaded : goal.returns-in-Ok-clause-loaded
returns-in-Ok-clause-loaded g c =
    let depot = g.D.Depot in
    IfOk-weaker c.load_profile-loaded.result _ _
    (λ loaded is. prepared (execution_of c.args.asked.now) (program_of c.in-Ok.program.program) (loaded_of loaded)
    (effect_of depot.files depot.failed_reads depot.failed_replaces c.read_rewritten.new.depot c.load_profile-loaded.new.depot)
    (effect_of depot.files depot.failed_reads depot.failed_replaces c.args.depot.now c.load_profile-loaded.new.depot)
    (since_read (depot.files c.args.depot.now) (depot.files c.read_rewritten.new.depot) (depot.files c.load_profile-loaded.new.depot) (depot.failed_reads c.args.depot.now) (depot.failed_reads c.read_rewritten.new.depot) (depot.failed_reads c.load_profile-loaded.new.depot) (depot.failed_replaces c.args.depot.now) (depot.failed_replaces c.read_rewritten.new.depot) (depot.failed_replaces c.load_profile-loaded.new.depot) c.in-Ok.ensures.same_files c.in-Ok.ensures.reads_never_fall c.in-Ok.ensures.replaces_never_fall) c.in-Ok.ensures.program is)
    c.load_profile-loaded.ensures.loaded

pub returns-in-Ok-clause-stops : goal.returns-in-Ok-clause-stops
returns-in-Ok-clause-stops g c =
    let depot = g.D.Depot in
    IfErr-weaker c.load_profile-loaded.result _ _
    (λ status why. after_source (execution_of c.args.asked.now) (program_of c.in-Ok.program.program)
    (effect_of depot.files depot.failed_reads depot.failed_replaces c.read_rewritten.new.depot c.load_profile-loaded.new.depot)
    (effect_of depot.files depot.failed_reads depot.failed_replaces c.args.depot.now c.load_profile-loaded.new.depot)
    status
    (since_read (depot.files c.args.depot.now) (depot.files c.read_rewritten.new.depot) (depot.files c.load_profile-loaded.new.depot) (depot.failed_reads c.args.depot.now) (depot.failed_reads c.read_rewritten.new.depot) (depot.failed_reads c.load_profile-loaded.new.depot) (depot.failed_replaces c.args.depot.now) (depot.failed_replaces c.read_rewritten.new.depot) (depot.failed_replaces c.load_profile-loaded.new.depot) c.in-Ok.ensures.same_files c.in-Ok.ensures.reads_never_fall c.in-Ok.ensures.replaces_never_fall) c.in-Ok.ensures.program why)
    c.load_profile-loaded.ensures.stops

pub returns-in-Err-clause-stops : goal.returns-in-Err-clause-stops
returns-in-Err-clause-stops g c = inr (inl c.in-Err.ensures.answers)
