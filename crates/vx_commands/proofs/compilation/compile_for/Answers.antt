-- The texts were made before any file was replaced.
use Rattle.std.proofs.Common.{◌∙◌, inr, option_map, subst}
use Rattle.vx_ast.specs.View.{program_of}
use Rattle.vx_files.specs.Effects.{effect_of}
use Rattle.vx_compiled.specs.Sized.{MakesTexts}
use Rattle.vx_commands.proofs.Answering.{some_named, texts_made}
use Rattle.vx_commands.proofs.compilation.compile_for.Goals as goal

pub returns-in-Ok-clause-answers : goal.returns-in-Ok-clause-answers
returns-in-Ok-clause-answers g c =
    let depot = g.D.Depot in
    let program = program_of c.args.program.now.program in
    let text = c.in-Ok.texts.words.items in
    let report = c.in-Ok.texts.report.items in
    let asked = c.args.asked.now in
    inr (texts_made program c.args.counts.now c.args.machine.now asked.growth asked.rewriting.inline asked.rewriting.select (option_map (λ s. s.now) asked.report) asked.out.now text report
    (effect_of depot.files depot.failed_reads depot.failed_replaces c.args.depot.now c.write_texts.new.depot)
    c.write_texts.result
    (subst (λ b. MakesTexts program c.args.counts.now c.args.machine.now asked.growth asked.rewriting.inline asked.rewriting.select b text report) (c.is_some.ensures ∙ some_named (λ s. s.now) asked.report) c.in-Ok.ensures)
    (rw (c.as_slice-in-Ok.ensures.value, c.as_slice.ensures.value) at c.write_texts.ensures.answers))
