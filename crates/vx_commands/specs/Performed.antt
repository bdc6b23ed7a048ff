-- What is said of a command that was performed, whatever its status, in one record: each function on the way from the words to a
-- command hands it on as it stands.
use Rattle.std.specs.Prelude.{◌≡◌, ◌≤◌, Bool, false, Option}
use Rattle.vx_status.specs.declared.status.Status.{Status}
use Rattle.vx_status.specs.Status.{Adds, status_line}
use Rattle.vx_command.specs.Command.{Command, Execution}
use Rattle.vx_runs.specs.Boxes.{Boxes, Chosen}
use Rattle.vx_files.specs.Effects.{Effect, SameFiles}
use Rattle.vx_runs.specs.Simulated.{Streams, ErrTells, is_of_run}
use Rattle.vx_runs.specs.Lines.{TellsLine, TellsRun}
use Rattle.vx_commands.specs.Commands.{Answers, puts_output}
use Rattle.vx_commands.specs.Executed.{ExecutionAnswers}

pub record Performed (command : Option Command) (boxes : Boxes) (e : Effect) (s : Streams) (status : Status) : Type 0 where
  pub answers : Answers command boxes e s status
  pub line : TellsLine command boxes s status
  pub nothing : puts_output command status ≡ false → s.out_after ≡ s.out_before
  pub adds : Adds s.err_before s.err_after s.err_faults_before s.err_faults_after
  pub reads_never_fall : e.reads_before ≤ e.reads_after
  pub replaces_never_fall : e.replaces_before ≤ e.replaces_after
  pub out_never_falls : s.out_faults_before ≤ s.out_faults_after

-- the same of words whose second one names a command or not: where it names none, the line of the status is told
pub record PerformedAs (named : Bool) (command : Option Command) (boxes : Boxes) (e : Effect) (s : Streams) (status : Status) : Type 0 where
  pub performed : Performed command boxes e s status
  pub no_command : named ≡ false → ErrTells (status_line status) s

-- and of an execution with these boxes
pub record ExecutionPerformed (asked : Execution) (these : Chosen) (e : Effect) (s : Streams) (status : Status) : Type 0 where
  pub files : SameFiles e
  pub answers : ExecutionAnswers asked e s status these
  pub line : TellsRun s status
  pub nothing : is_of_run status ≡ false → s.out_after ≡ s.out_before
  pub adds : Adds s.err_before s.err_after s.err_faults_before s.err_faults_after
  pub reads_never_fall : e.reads_before ≤ e.reads_after
  pub replaces_never_fall : e.replaces_before ≤ e.replaces_after
  pub out_never_falls : s.out_faults_before ≤ s.out_faults_after
