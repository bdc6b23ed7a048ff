-- The words are put, and then the report from there on.
use Rattle.std.proofs.Common.{◌≡◌, inl, inr, refl, subst, sym}
use Rattle.vx_io.specs.Outside.{with_file}
use Rattle.vx_files.specs.Effects.{effect_of}
use Rattle.vx_runs.specs.Writing.{once_written, WriteAnswers}
use Rattle.vx_runs.proofs.Later.{write_since}
use Rattle.vx_runs.proofs.texts.write_both.Goals as goal

pub returns-then-is_done-clause-answers : goal.returns-then-is_done-clause-answers
returns-then-is_done-clause-answers g c =
    let depot = g.D.Depot in
    let out = c.args.out.now in
    let text = c.args.text.now in
    let first = effect_of depot.files depot.failed_reads depot.failed_replaces c.args.depot.now c.write_text-first.new.depot in
    let put : depot.files c.write_text-first.new.depot ≡ with_file (depot.files c.args.depot.now) out text =
    subst (WriteAnswers out text first) (c.is_done.ensures.done c.if-is_done.true) c.write_text-first.ensures.answers in
    inr (write_since c.args.name.now c.args.report.now
    (effect_of depot.files depot.failed_reads depot.failed_replaces c.write_text-first.new.depot c.write_text.new.depot)
    (once_written out text (effect_of depot.files depot.failed_reads depot.failed_replaces c.args.depot.now c.write_text.new.depot))
    c.write_text.result
    (record {
      before = sym put;
      after = refl;
      reads = c.write_text-first.ensures.reads_never_fall;
      reads_after = refl;
      replaces = c.write_text-first.ensures.replaces_never_fall;
      replaces_after = refl;
    })
    c.write_text.ensures.answers)

pub returns-else-is_done-clause-answers : goal.returns-else-is_done-clause-answers
returns-else-is_done-clause-answers g c = inl (c.is_done.ensures.other c.if-is_done.false, c.write_text-first.ensures.answers)
