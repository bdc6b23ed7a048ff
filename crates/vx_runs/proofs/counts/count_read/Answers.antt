-- The source was read and rewritten before all else, and that changed no file.
use Rattle.std.proofs.Common.{inl, inr, refl, sym}
use Rattle.std.proofs.lemmas.Result.{IfErr-weaker, IfOk-weaker}
use Rattle.vx_ast.specs.View.{program_of}
use Rattle.vx_files.specs.Effects.{effect_of}
use Rattle.vx_command.specs.Asked.{profiling_of}
use Rattle.vx_runs.proofs.CountLaws.{counted_for, stops_later}
use Rattle.vx_runs.proofs.Reading.{read_on}
use Rattle.vx_runs.proofs.counts.count_read.Goals as goal

pub returns-in-Ok-clause-only_reads : goal.returns-in-Ok-clause-only_reads
returns-in-Ok-clause-only_reads g c = read_on _ _ _ _ _ _ _ _ _ c.in-Ok.ensures.same_files c.in-Ok.ensures.reads_never_fall c.in-Ok.ensures.replaces_never_fall c.count_on-counted.ensures.only_reads

pub returns-in-Err-clause-only_reads : goal.returns-in-Err-clause-only_reads
returns-in-Err-clause-only_reads g c = record { files = c.in-Err.ensures.same_files; reads = c.in-Err.ensures.reads_never_fall; replaces = c.in-Err.ensures.replaces_never_fall }

pub returns-in-Ok-clause-counted : goal.returns-in-Ok-clause-counted
returns-in-Ok-clause-counted g c =
    let depot = g.D.Depot in
    IfOk-weaker c.count_on-counted.result _ _
    (λ counted is. counted_for (profiling_of c.args.asked.now) (program_of c.in-Ok.program.program) counted.text.items counted.complete
    (effect_of depot.files depot.failed_reads depot.failed_replaces c.read_rewritten.new.depot c.count_on-counted.new.depot)
    (effect_of depot.files depot.failed_reads depot.failed_replaces c.args.depot.now c.count_on-counted.new.depot)
    (record {
      before = sym c.in-Ok.ensures.same_files;
      after = refl;
      reads = c.in-Ok.ensures.reads_never_fall;
      reads_after = refl;
      replaces = c.in-Ok.ensures.replaces_never_fall;
      replaces_after = refl;
    }) c.in-Ok.ensures.program is)
    c.count_on-counted.ensures.counted

pub returns-in-Ok-clause-stops : goal.returns-in-Ok-clause-stops
returns-in-Ok-clause-stops g c =
    let depot = g.D.Depot in
    IfErr-weaker c.count_on-counted.result _ _
    (λ status why. stops_later (profiling_of c.args.asked.now) (program_of c.in-Ok.program.program)
    (effect_of depot.files depot.failed_reads depot.failed_replaces c.read_rewritten.new.depot c.count_on-counted.new.depot)
    (effect_of depot.files depot.failed_reads depot.failed_replaces c.args.depot.now c.count_on-counted.new.depot)
    status
    (record {
      before = sym c.in-Ok.ensures.same_files;
      after = refl;
      reads = c.in-Ok.ensures.reads_never_fall;
      reads_after = refl;
      replaces = c.in-Ok.ensures.replaces_never_fall;
      replaces_after = refl;
    }) c.in-Ok.ensures.program why)
    c.count_on-counted.ensures.stops

pub returns-in-Err-clause-stops : goal.returns-in-Err-clause-stops
returns-in-Err-clause-stops g c = inr (inl c.in-Err.ensures.answers)

pub count_on-counted-requires : goal.count_on-counted-requires
count_on-counted-requires g c = c.args.asked.now.rewriting.sides
