-- What each answer of the top call says, command by command.
use Rattle.std.specs.Prelude.{◌≡◌, ◌⊎◌, Bool, false, Option, Some, None, IfSome}
use Rattle.vx_status.specs.declared.status.Status.{Status}
use Rattle.vx_status.specs.declared.status.Status.TheVariants.{Usage, NoMemory}
use Rattle.vx_command.specs.Command.{Command, Compile, Simulate, Execute, Count, Soak, Check}
use Rattle.vx_runs.specs.Boxes.{Boxes}
use Rattle.vx_files.specs.Effects.{Effect, SameFiles, ReadsRose, ReplacesRose}
use Rattle.vx_commands.specs.Answers.{CompileAnswers, CompileEnds}
use Rattle.vx_runs.specs.Simulated.{Streams, SimAnswers, SimCompletes, is_of_run}
use Rattle.vx_commands.specs.Executed.{ExecAnswers, ExecCompletes}
use Rattle.vx_runs.specs.Counted.{ProfilingAnswers, ProfilingCompletes}
use Rattle.vx_runs.specs.Checking.{CheckAnswers, CheckCompletes, puts_strict}
use Rattle.vx_commands.specs.Soaked.{SoakAnswers, SoakCompletes}
use Rattle.vx_runs.specs.Summary.{puts_summary}

-- words that are no command are answered Usage, unless memory is wanted
abbrev pub Answers : Option Command → Boxes → Effect → Streams → Status → Type 0
Answers None boxes e s status = ((status ≡ Usage) ⊎ (status ≡ NoMemory)) × SameFiles e
Answers (Some (Compile asked)) boxes e s status = CompileAnswers asked e status
Answers (Some (Simulate asked)) boxes e s status = SimAnswers asked boxes e s status
Answers (Some (Execute asked)) boxes e s status = ExecAnswers asked boxes e s status
Answers (Some (Count asked)) boxes e s status = ProfilingAnswers asked e s status
Answers (Some (Soak asked)) boxes e s status = SoakAnswers asked boxes e s status
Answers (Some (Check asked)) boxes e s status = CheckAnswers asked e s status

abbrev pub Completes : Option Command → Boxes → Effect → Streams → Status → Type 0
Completes None boxes e s status = Unit {0}
Completes (Some (Compile asked)) boxes e s status = (ReadsRose e → ⊥) → (ReplacesRose e → ⊥) → IfSome e.before (λ held. CompileEnds asked held status)
Completes (Some (Simulate asked)) boxes e s status = SimCompletes asked boxes e s status
Completes (Some (Execute asked)) boxes e s status = ExecCompletes asked boxes e s status
Completes (Some (Count asked)) boxes e s status = ProfilingCompletes asked e s status
Completes (Some (Soak asked)) boxes e s status = SoakCompletes asked boxes s status
Completes (Some (Check asked)) boxes e s status = CheckCompletes asked e s status

-- nothing is put on the output but by a run, and by the check of a strict program
abbrev pub puts_output : Option Command → Status → Bool
puts_output (Some (Simulate asked)) status = is_of_run status
puts_output (Some (Execute asked)) status = is_of_run status
puts_output (Some (Count asked)) status = is_of_run status
puts_output (Some (Soak asked)) status = puts_summary status
puts_output (Some (Check asked)) status = puts_strict status
puts_output command status = false
