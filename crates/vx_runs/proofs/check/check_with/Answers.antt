-- What was read is checked, or the reading of the files stopped the command.
use Rattle.std.proofs.Common.{refl}
use Rattle.vx_files.specs.Effects.{effect_of}
use Rattle.vx_command.specs.Asked.{checking_of}
use Rattle.vx_runs.specs.Ending.{loaded_of}
use Rattle.vx_runs.specs.Simulated.{streams_of}
use Rattle.vx_runs.proofs.Checking.{check_stopped, checked_answers}
use Rattle.vx_runs.proofs.check.check_with.Goals as goal

pub returns-in-Ok-clause-answers : goal.returns-in-Ok-clause-answers
returns-in-Ok-clause-answers g c = (
  c.load.ensures.same_files,
  checked_answers (checking_of c.args.asked.now) (loaded_of c.in-Ok.loaded)
      (effect_of g.D.Depot.files g.D.Depot.failed_reads g.D.Depot.failed_replaces c.args.depot.now c.load.new.depot) _ c.in-Ok.ensures.loaded c.in-Ok.ensures.spells c.in-Ok.ensures.default_machine c.check_loaded.result c.check_loaded.ensures.checked,
)

pub returns-in-Err-clause-answers : goal.returns-in-Err-clause-answers
returns-in-Err-clause-answers g c = (
  c.load.ensures.same_files,
  check_stopped (checking_of c.args.asked.now)
      (effect_of g.D.Depot.files g.D.Depot.failed_reads g.D.Depot.failed_replaces c.args.depot.now c.load.new.depot)
      (streams_of g.K.Sink.told g.K.Sink.faults g.E.Sink.told g.E.Sink.faults c.args.out.now c.args.out.now c.args.err.now c.tell.new.err) c.in-Err.status c.tell.result c.tell.ensures.same c.in-Err.ensures.stops,
)

pub returns-in-Ok-clause-line : goal.returns-in-Ok-clause-line
returns-in-Ok-clause-line g c = c.check_loaded.ensures.tells

pub returns-in-Ok-clause-adds : goal.returns-in-Ok-clause-adds
returns-in-Ok-clause-adds g c = c.check_loaded.ensures.adds

pub returns-in-Ok-clause-nothing : goal.returns-in-Ok-clause-nothing
returns-in-Ok-clause-nothing g c = c.check_loaded.ensures.nothing

pub returns-in-Ok-clause-reads_never_fall : goal.returns-in-Ok-clause-reads_never_fall
returns-in-Ok-clause-reads_never_fall g c = c.load.ensures.reads_never_fall

pub returns-in-Ok-clause-replaces_never_fall : goal.returns-in-Ok-clause-replaces_never_fall
returns-in-Ok-clause-replaces_never_fall g c = c.load.ensures.replaces_never_fall

pub returns-in-Ok-clause-out_never_falls : goal.returns-in-Ok-clause-out_never_falls
returns-in-Ok-clause-out_never_falls g c = c.check_loaded.ensures.out_never_falls

pub returns-in-Err-clause-line : goal.returns-in-Err-clause-line
returns-in-Err-clause-line g c = c.tell.ensures.tells

pub returns-in-Err-clause-adds : goal.returns-in-Err-clause-adds
returns-in-Err-clause-adds g c = c.tell.ensures.adds

pub returns-in-Err-clause-nothing : goal.returns-in-Err-clause-nothing
returns-in-Err-clause-nothing g c = λ not. refl

pub returns-in-Err-clause-reads_never_fall : goal.returns-in-Err-clause-reads_never_fall
returns-in-Err-clause-reads_never_fall g c = c.load.ensures.reads_never_fall

pub returns-in-Err-clause-replaces_never_fall : goal.returns-in-Err-clause-replaces_never_fall
returns-in-Err-clause-replaces_never_fall g c = c.load.ensures.replaces_never_fall
