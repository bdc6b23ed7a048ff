-- The file's bytes are a source, or they are not.
use Rattle.std.proofs.Common.{ℕ, List, ◌⊎◌, ◌≡◌}
use Rattle.std.proofs.lemmas.Result.{IfErr-weaker, IfOk-weaker}
use Rattle.vx_ast.specs.Reads.{Reads}
use Rattle.vx_ast.specs.View.{program_of}
use Rattle.vx_status.specs.declared.status.Status.TheVariants.{NoMemory}
use Rattle.vx_files.specs.Effects.{effect_of}
use Rattle.vx_files.specs.Held.{RefusesSource}
use Rattle.vx_files.proofs.SourceFile.{holds_in, source_held, source_unread, unread}
use Rattle.vx_files.proofs.sources.read_through.Goals as goal

pub returns-in-Ok-clause-program : goal.returns-in-Ok-clause-program
returns-in-Ok-clause-program g c =
    let content : List ℕ = c.in-Ok.bytes.items in
    let files = g.D.Depot.files c.args.depot.now in
    IfOk-weaker c.typed_of.result (λ typed. Reads content (program_of typed.program)) _
    (λ typed reads. holds_in c.args.source.now content (program_of typed.program) files (source_held c.args.source.now c.in-Ok.bytes files c.in-Ok.ensures.content) reads)
    (rw c.as_slice.ensures.value at c.typed_of.ensures.reads)

pub returns-in-Ok-clause-answers : goal.returns-in-Ok-clause-answers
returns-in-Ok-clause-answers g c =
    let content : List ℕ = c.in-Ok.bytes.items in
    IfErr-weaker c.typed_of.result (λ status. (status ≡ NoMemory) ⊎ RefusesSource content status) _
    (λ status why. unread c.args.source.now content
    (effect_of g.D.Depot.files g.D.Depot.failed_reads g.D.Depot.failed_replaces c.args.depot.now c.read_whole.new.depot) status (source_held c.args.source.now c.in-Ok.bytes (g.D.Depot.files c.args.depot.now) c.in-Ok.ensures.content) c.read_whole.ensures.same_files why)
    (rw c.as_slice.ensures.value at c.typed_of.ensures.refused)

pub returns-in-Ok-clause-same_files : goal.returns-in-Ok-clause-same_files
returns-in-Ok-clause-same_files g c = c.read_whole.ensures.same_files

pub returns-in-Ok-clause-reads_never_fall : goal.returns-in-Ok-clause-reads_never_fall
returns-in-Ok-clause-reads_never_fall g c = c.read_whole.ensures.reads_never_fall

pub returns-in-Ok-clause-replaces_never_fall : goal.returns-in-Ok-clause-replaces_never_fall
returns-in-Ok-clause-replaces_never_fall g c = c.read_whole.ensures.replaces_never_fall

pub returns-in-Err : goal.returns-in-Err
returns-in-Err g c = record {
  same_files = c.read_whole.ensures.same_files;
  program = tt;
  answers = source_unread c.args.source.now (effect_of g.D.Depot.files g.D.Depot.failed_reads g.D.Depot.failed_replaces c.args.depot.now c.read_whole.new.depot) c.in-Err.status c.read_whole.ensures.same_files c.in-Err.ensures.refused;
  reads_never_fall = c.read_whole.ensures.reads_never_fall;
  replaces_never_fall = c.read_whole.ensures.replaces_never_fall;
}
