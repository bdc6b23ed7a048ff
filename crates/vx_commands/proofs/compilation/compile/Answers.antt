-- The source was read through and rewritten before all else, and that changed no file.
use Rattle.vx_ast.specs.View.{program_of}
use Rattle.vx_files.specs.Effects.{effect_of}
use Rattle.vx_command.specs.Asked.{compilation_of}
use Rattle.vx_commands.proofs.Answering.{compiled_answers, stops_at_source}
use Rattle.vx_runs.proofs.Since.{since_read}
use Rattle.vx_commands.proofs.compilation.compile.Goals as goal

pub returns-in-Ok-clause-answers : goal.returns-in-Ok-clause-answers
returns-in-Ok-clause-answers g c =
    let depot = g.D.Depot in
    compiled_answers (compilation_of c.args.asked.now) (program_of c.in-Ok.program.program)
    (effect_of depot.files depot.failed_reads depot.failed_replaces c.read_rewritten.new.depot c.compile_read-status.new.depot)
    (effect_of depot.files depot.failed_reads depot.failed_replaces c.args.depot.now c.compile_read-status.new.depot)
    c.compile_read-status.result
    (since_read (depot.files c.args.depot.now) (depot.files c.read_rewritten.new.depot) (depot.files c.compile_read-status.new.depot) (depot.failed_reads c.args.depot.now) (depot.failed_reads c.read_rewritten.new.depot) (depot.failed_reads c.compile_read-status.new.depot) (depot.failed_replaces c.args.depot.now) (depot.failed_replaces c.read_rewritten.new.depot) (depot.failed_replaces c.compile_read-status.new.depot) c.in-Ok.ensures.same_files c.in-Ok.ensures.reads_never_fall c.in-Ok.ensures.replaces_never_fall)
    c.in-Ok.ensures.program c.compile_read-status.ensures.answers

pub returns-in-Err-clause-answers : goal.returns-in-Err-clause-answers
returns-in-Err-clause-answers g c = stops_at_source (compilation_of c.args.asked.now) _ _ c.in-Err.ensures.answers
