-- The input is read for what was read before.
use Rattle.std.proofs.Common.{inl, inr, option_map}
use Rattle.std.proofs.lemmas.Result.{IfErr-weaker, IfOk-weaker}
use Rattle.vx_ast.specs.View.{program_of}
use Rattle.vx_runs.specs.Ending.{loaded_of}
use Rattle.vx_runs.proofs.FileSteps.{still_some}
use Rattle.vx_commands.proofs.Loading.{input_loaded}
use Rattle.vx_commands.proofs.exec.load_input.Goals as goal

pub returns-in-Ok-clause-only_reads : goal.returns-in-Ok-clause-only_reads
returns-in-Ok-clause-only_reads g c = record { files = c.in-Ok.ensures.same_files; reads = c.in-Ok.ensures.reads_never_fall; replaces = c.in-Ok.ensures.replaces_never_fall }

pub returns-in-Err-clause-only_reads : goal.returns-in-Err-clause-only_reads
returns-in-Err-clause-only_reads g c = record { files = c.in-Err.ensures.same_files; reads = c.in-Err.ensures.reads_never_fall; replaces = c.in-Err.ensures.replaces_never_fall }

pub returns-in-Ok-clause-loaded : goal.returns-in-Ok-clause-loaded
returns-in-Ok-clause-loaded g c =
    IfOk-weaker c.load_words.result _ _
    (λ loaded is. input_loaded (program_of c.args.program.now.program) c.args.counts.now c.args.growth c.args.options.inline c.args.options.select (loaded_of loaded) c.args.machine (g.D.Depot.files c.args.depot.now) (option_map (λ s. s.now) c.args.name) c.in-Ok.input.items c.in-Ok.ensures.numbers c.in-Ok.ensures.unnamed is)
    c.load_words.ensures.loaded

pub returns-in-Ok-clause-stops : goal.returns-in-Ok-clause-stops
returns-in-Ok-clause-stops g c = IfErr-weaker c.load_words.result _ _ (λ status memory. inl memory) c.load_words.ensures.memory

pub returns-in-Err-clause-stops : goal.returns-in-Err-clause-stops
returns-in-Err-clause-stops g c = inr (still_some _ c.args.name c.in-Err.ensures.named, c.in-Err.ensures.answers)
