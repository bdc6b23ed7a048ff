-- The program that was read, rewritten; where memory is wanted no file has changed.
use Rattle.std.proofs.Common.{sym, subst}
use Rattle.std.proofs.lemmas.Result.{IfErr-weaker, IfOk-weaker}
use Rattle.vx_ast.specs.View.{program_of}
use Rattle.vx_files.specs.Effects.{SourceAnswers, effect_of}
use Rattle.vx_runs.proofs.rewritten.read_rewritten.Goals as goal

pub returns-in-Ok-clause-program : goal.returns-in-Ok-clause-program
returns-in-Ok-clause-program g c =
    IfOk-weaker c.rewritten.result _ _ (λ made turns. record { program = program_of c.in-Ok.program.program; holds = c.in-Ok.ensures.program; turns = turns }) c.rewritten.ensures.turns

pub returns-in-Ok-clause-answers : goal.returns-in-Ok-clause-answers
returns-in-Ok-clause-answers g c =
    let depot = g.D.Depot in
    IfErr-weaker c.rewritten.result _ _
    (λ status memory. subst (SourceAnswers c.args.source.now (effect_of depot.files depot.failed_reads depot.failed_replaces c.args.depot.now c.read_through.new.depot)) (sym memory) c.in-Ok.ensures.same_files) c.rewritten.ensures.memory
