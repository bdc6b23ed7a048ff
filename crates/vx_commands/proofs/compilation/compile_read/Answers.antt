-- The profile was read before the machine, and reading it changed no file.
use Rattle.std.proofs.Common.{inl}
use Rattle.vx_ast.specs.View.{program_of}
use Rattle.vx_files.specs.Effects.{effect_of}
use Rattle.vx_command.specs.Asked.{compilation_of}
use Rattle.vx_commands.proofs.Answering.{by_profile}
use Rattle.vx_runs.proofs.FileSteps.{still_some}
use Rattle.vx_runs.proofs.Since.{since_read}
use Rattle.vx_commands.proofs.compilation.compile_read.Goals as goal

pub returns-in-Ok-clause-answers : goal.returns-in-Ok-clause-answers
returns-in-Ok-clause-answers g c =
    let depot = g.D.Depot in
    by_profile (program_of c.args.program.now.program) c.in-Ok.counts (compilation_of c.args.asked.now)
    (effect_of depot.files depot.failed_reads depot.failed_replaces c.counts_for.new.depot c.compile_by.new.depot)
    (effect_of depot.files depot.failed_reads depot.failed_replaces c.args.depot.now c.compile_by.new.depot)
    c.compile_by.result
    (since_read (depot.files c.args.depot.now) (depot.files c.counts_for.new.depot) (depot.files c.compile_by.new.depot) (depot.failed_reads c.args.depot.now) (depot.failed_reads c.counts_for.new.depot) (depot.failed_reads c.compile_by.new.depot) (depot.failed_replaces c.args.depot.now) (depot.failed_replaces c.counts_for.new.depot) (depot.failed_replaces c.compile_by.new.depot) c.in-Ok.ensures.same_files c.in-Ok.ensures.reads_never_fall c.in-Ok.ensures.replaces_never_fall)
    c.in-Ok.ensures.counts c.compile_by.ensures.answers

pub returns-in-Err-clause-answers : goal.returns-in-Err-clause-answers
returns-in-Err-clause-answers g c = inl (record { named = still_some _ c.args.asked.now.profile c.in-Err.ensures.named; answers = c.in-Err.ensures.answers })
