-- The words were read before all else, and reading them changed no file.
use Rattle.std.proofs.Common.{IfSome, option_map, sym, subst, ◌∙◌, arith}
use Rattle.std.proofs.lemmas.Result.{IfErr-weaker, IfOk-weaker}
use Rattle.vx_words.specs.Spelling.{Spells}
use Rattle.vx_files.specs.Effects.{effect_of}
use Rattle.vx_runs.specs.Ending.{loaded_of}
use Rattle.vx_runs.proofs.FileSteps.{words_loaded, after_words, at_words}
use Rattle.vx_runs.proofs.Since.{since_read}
use Rattle.vx_runs.proofs.sim.load.Goals as goal

pub returns-in-Ok-clause-loaded : goal.returns-in-Ok-clause-loaded
returns-in-Ok-clause-loaded g c =
    IfOk-weaker c.load_machine.result _ _
    (λ loaded more. words_loaded (g.D.Depot.files c.args.depot.now) (g.D.Depot.files c.read_words.new.depot) c.args.words.now (option_map (λ s. s.now) c.args.machine) (option_map (λ s. s.now) c.args.input) c.in-Ok.program (loaded_of loaded) c.in-Ok.ensures.same_files c.in-Ok.ensures.program more)
    c.load_machine.ensures.loaded

pub returns-in-Ok-clause-spells : goal.returns-in-Ok-clause-spells
returns-in-Ok-clause-spells g c =
    IfOk-weaker c.load_machine.result _ _
    (λ loaded same. subst (λ p. IfSome (g.D.Depot.files c.args.depot.now) (λ held. IfSome (held c.args.words.now) (λ content. Spells content p))) (sym same) c.in-Ok.ensures.spells)
    c.load_machine.ensures.program

pub returns-in-Ok-clause-stops : goal.returns-in-Ok-clause-stops
returns-in-Ok-clause-stops g c =
    let depot = g.D.Depot in
    IfErr-weaker c.load_machine.result _ _
    (λ status why. after_words c.args.words.now (option_map (λ s. s.now) c.args.machine) (option_map (λ s. s.now) c.args.input) c.in-Ok.program
    (effect_of depot.files depot.failed_reads depot.failed_replaces c.read_words.new.depot c.load_machine.new.depot)
    (effect_of depot.files depot.failed_reads depot.failed_replaces c.args.depot.now c.load_machine.new.depot)
    status
    (since_read (depot.files c.args.depot.now) (depot.files c.read_words.new.depot) (depot.files c.load_machine.new.depot) (depot.failed_reads c.args.depot.now) (depot.failed_reads c.read_words.new.depot) (depot.failed_reads c.load_machine.new.depot) (depot.failed_replaces c.args.depot.now) (depot.failed_replaces c.read_words.new.depot) (depot.failed_replaces c.load_machine.new.depot) c.in-Ok.ensures.same_files c.in-Ok.ensures.reads_never_fall c.in-Ok.ensures.replaces_never_fall) c.in-Ok.ensures.program why)
    c.load_machine.ensures.stops

pub returns-in-Err-clause-stops : goal.returns-in-Err-clause-stops
returns-in-Err-clause-stops g c = at_words c.args.words.now _ _
    (effect_of g.D.Depot.files g.D.Depot.failed_reads g.D.Depot.failed_replaces c.args.depot.now c.read_words.new.depot) c.in-Err.status c.in-Err.ensures.stops

pub returns-in-Ok-clause-default_machine : goal.returns-in-Ok-clause-default_machine
returns-in-Ok-clause-default_machine g c = c.load_machine.ensures.default_machine

pub returns-in-Ok-clause-unnamed : goal.returns-in-Ok-clause-unnamed
returns-in-Ok-clause-unnamed g c = c.load_machine.ensures.unnamed

pub returns-in-Ok-clause-same_files : goal.returns-in-Ok-clause-same_files
returns-in-Ok-clause-same_files g c = c.load_machine.ensures.same_files ∙ c.read_words.ensures.same_files

pub returns-in-Ok-clause-reads_never_fall : goal.returns-in-Ok-clause-reads_never_fall
returns-in-Ok-clause-reads_never_fall g c = omega (arith, c.read_words.ensures.reads_never_fall, c.load_machine.ensures.reads_never_fall)

pub returns-in-Ok-clause-replaces_never_fall : goal.returns-in-Ok-clause-replaces_never_fall
returns-in-Ok-clause-replaces_never_fall g c = omega (arith, c.read_words.ensures.replaces_never_fall, c.load_machine.ensures.replaces_never_fall)

pub returns-in-Err-clause-same_files : goal.returns-in-Err-clause-same_files
returns-in-Err-clause-same_files g c = c.read_words.ensures.same_files

pub returns-in-Err-clause-reads_never_fall : goal.returns-in-Err-clause-reads_never_fall
returns-in-Err-clause-reads_never_fall g c = c.read_words.ensures.reads_never_fall

pub returns-in-Err-clause-replaces_never_fall : goal.returns-in-Err-clause-replaces_never_fall
returns-in-Err-clause-replaces_never_fall g c = c.read_words.ensures.replaces_never_fall

pub returns-in-Err-clause-loaded : goal.returns-in-Err-clause-loaded
returns-in-Err-clause-loaded g c = tt

pub returns-in-Err-clause-spells : goal.returns-in-Err-clause-spells
returns-in-Err-clause-spells g c = tt

pub returns-in-Err-clause-default_machine : goal.returns-in-Err-clause-default_machine
returns-in-Err-clause-default_machine g c = tt

pub returns-in-Err-clause-unnamed : goal.returns-in-Err-clause-unnamed
returns-in-Err-clause-unnamed g c = tt
