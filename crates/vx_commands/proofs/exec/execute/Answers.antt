-- What was read and compiled is run, or a step before stopped the command.
use Rattle.std.proofs.Common.{refl}
use Rattle.vx_command.specs.Asked.{execution_of}
use Rattle.vx_runs.specs.Ending.{loaded_of}
use Rattle.vx_runs.proofs.Runs.{wanted_for}
use Rattle.vx_commands.proofs.Executing.{run_executed}
use Rattle.vx_commands.proofs.Performing.{execution_stopped}
use Rattle.vx_commands.proofs.exec.execute.Goals as goal

pub returns-in-Ok : goal.returns-in-Ok
returns-in-Ok g c =
    let ran = c.run_loaded.ensures in
    record {
      files = c.in-Ok.ensures.only_reads.files;
      answers = run_executed (execution_of c.args.asked.now) (loaded_of c.in-Ok.loaded) _ _ _ _ c.in-Ok.ensures.loaded c.in-Ok.loaded.numbers (wanted_for _ c.args.probes.items _ c.args.asked.now.run.probe c.requires.wanted) c.run_loaded.result ran.answers;
      line = ran.line;
      nothing = ran.nothing;
      adds = ran.adds;
      reads_never_fall = c.in-Ok.ensures.only_reads.reads;
      replaces_never_fall = c.in-Ok.ensures.only_reads.replaces;
      out_never_falls = ran.out_never_falls;
    }

pub returns-in-Err : goal.returns-in-Err
returns-in-Err g c = execution_stopped _ _ _ _ c.in-Err.status _ c.tell.ensures.same c.in-Err.ensures.only_reads refl refl c.in-Err.ensures.stops c.tell.ensures.tells c.tell.ensures.adds
