-- The machine was found before the texts were written, and finding it changed no file.
use Rattle.vx_ast.specs.View.{program_of}
use Rattle.vx_files.specs.Effects.{effect_of}
use Rattle.vx_command.specs.Asked.{compilation_of}
use Rattle.vx_commands.proofs.Answering.{for_machine}
use Rattle.vx_runs.proofs.Since.{since_read}
use Rattle.vx_commands.proofs.compilation.compile_by.Goals as goal

pub returns-in-Ok-clause-answers : goal.returns-in-Ok-clause-answers
returns-in-Ok-clause-answers g c =
    let depot = g.D.Depot in
    for_machine (program_of c.args.program.now.program) c.args.counts.now c.in-Ok.machine (compilation_of c.args.asked.now)
    (effect_of depot.files depot.failed_reads depot.failed_replaces c.machine_for.new.depot c.compile_for.new.depot)
    (effect_of depot.files depot.failed_reads depot.failed_replaces c.args.depot.now c.compile_for.new.depot)
    c.compile_for.result
    (since_read (depot.files c.args.depot.now) (depot.files c.machine_for.new.depot) (depot.files c.compile_for.new.depot) (depot.failed_reads c.args.depot.now) (depot.failed_reads c.machine_for.new.depot) (depot.failed_reads c.compile_for.new.depot) (depot.failed_replaces c.args.depot.now) (depot.failed_replaces c.machine_for.new.depot) (depot.failed_replaces c.compile_for.new.depot) c.in-Ok.ensures.same_files c.in-Ok.ensures.reads_never_fall c.in-Ok.ensures.replaces_never_fall)
    c.in-Ok.ensures.machine c.compile_for.ensures.answers
