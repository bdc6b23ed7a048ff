-- The machine was read before the input, and reading it changed no file.
use Rattle.std.proofs.Common.{subst, sym, option_map, ◌∙◌, arith}
use Rattle.std.proofs.lemmas.Result.{IfErr-weaker, IfOk-weaker}
use Rattle.vx_files.specs.Effects.{effect_of}
use Rattle.vx_runs.specs.Ending.{loaded_of}
use Rattle.vx_files.specs.Held.{DefaultUnless}
use Rattle.vx_runs.proofs.FileSteps.{machine_loaded, after_machine, at_machine, still_some}
use Rattle.vx_runs.proofs.Since.{since_read}
use Rattle.vx_runs.proofs.sim.load_machine.Goals as goal

pub returns-in-Ok-clause-loaded : goal.returns-in-Ok-clause-loaded
returns-in-Ok-clause-loaded g c =
    IfOk-weaker c.load_input.result _ _
    (λ loaded more. machine_loaded (g.D.Depot.files c.args.depot.now) (g.D.Depot.files c.machine_for.new.depot) c.args.program (option_map (λ s. s.now) c.args.machine) (option_map (λ s. s.now) c.args.input) c.in-Ok.machine (loaded_of loaded) c.in-Ok.ensures.same_files c.in-Ok.ensures.machine more)
    c.load_input.ensures.loaded

pub returns-in-Ok-clause-default_machine : goal.returns-in-Ok-clause-default_machine
returns-in-Ok-clause-default_machine g c = IfOk-weaker c.load_input.result _ _ (λ loaded same. subst (DefaultUnless (option_map (λ s. s.now) c.args.machine)) (sym same) c.in-Ok.ensures.default_machine) c.load_input.ensures.machine

pub returns-in-Ok-clause-stops : goal.returns-in-Ok-clause-stops
returns-in-Ok-clause-stops g c =
    let depot = g.D.Depot in
    IfErr-weaker c.load_input.result _ _
    (λ status why. after_machine c.args.program (option_map (λ s. s.now) c.args.machine) (option_map (λ s. s.now) c.args.input) c.in-Ok.machine
    (effect_of depot.files depot.failed_reads depot.failed_replaces c.machine_for.new.depot c.load_input.new.depot)
    (effect_of depot.files depot.failed_reads depot.failed_replaces c.args.depot.now c.load_input.new.depot)
    status
    (since_read (depot.files c.args.depot.now) (depot.files c.machine_for.new.depot) (depot.files c.load_input.new.depot) (depot.failed_reads c.args.depot.now) (depot.failed_reads c.machine_for.new.depot) (depot.failed_reads c.load_input.new.depot) (depot.failed_replaces c.args.depot.now) (depot.failed_replaces c.machine_for.new.depot) (depot.failed_replaces c.load_input.new.depot) c.in-Ok.ensures.same_files c.in-Ok.ensures.reads_never_fall c.in-Ok.ensures.replaces_never_fall) c.in-Ok.ensures.machine why)
    c.load_input.ensures.stops

pub returns-in-Err-clause-stops : goal.returns-in-Err-clause-stops
returns-in-Err-clause-stops g c = at_machine c.args.program (option_map (λ s. s.now) c.args.machine) (option_map (λ s. s.now) c.args.input)
    (effect_of g.D.Depot.files g.D.Depot.failed_reads g.D.Depot.failed_replaces c.args.depot.now c.machine_for.new.depot) c.in-Err.status (still_some _ c.args.machine c.in-Err.ensures.named) c.in-Err.ensures.answers

pub returns-in-Ok-clause-program : goal.returns-in-Ok-clause-program
returns-in-Ok-clause-program g c = c.load_input.ensures.program

pub returns-in-Ok-clause-unnamed : goal.returns-in-Ok-clause-unnamed
returns-in-Ok-clause-unnamed g c = c.load_input.ensures.unnamed

pub returns-in-Ok-clause-same_files : goal.returns-in-Ok-clause-same_files
returns-in-Ok-clause-same_files g c = c.load_input.ensures.same_files ∙ c.machine_for.ensures.same_files

pub returns-in-Ok-clause-reads_never_fall : goal.returns-in-Ok-clause-reads_never_fall
returns-in-Ok-clause-reads_never_fall g c = omega (arith, c.machine_for.ensures.reads_never_fall, c.load_input.ensures.reads_never_fall)

pub returns-in-Ok-clause-replaces_never_fall : goal.returns-in-Ok-clause-replaces_never_fall
returns-in-Ok-clause-replaces_never_fall g c = omega (arith, c.machine_for.ensures.replaces_never_fall, c.load_input.ensures.replaces_never_fall)

pub returns-in-Err-clause-same_files : goal.returns-in-Err-clause-same_files
returns-in-Err-clause-same_files g c = c.machine_for.ensures.same_files

pub returns-in-Err-clause-reads_never_fall : goal.returns-in-Err-clause-reads_never_fall
returns-in-Err-clause-reads_never_fall g c = c.machine_for.ensures.reads_never_fall

pub returns-in-Err-clause-replaces_never_fall : goal.returns-in-Err-clause-replaces_never_fall
returns-in-Err-clause-replaces_never_fall g c = c.machine_for.ensures.replaces_never_fall

pub returns-in-Err-clause-loaded : goal.returns-in-Err-clause-loaded
returns-in-Err-clause-loaded g c = tt

pub returns-in-Err-clause-program : goal.returns-in-Err-clause-program
returns-in-Err-clause-program g c = tt

pub returns-in-Err-clause-default_machine : goal.returns-in-Err-clause-default_machine
returns-in-Err-clause-default_machine g c = tt

pub returns-in-Err-clause-unnamed : goal.returns-in-Err-clause-unnamed
returns-in-Err-clause-unnamed g c = tt
