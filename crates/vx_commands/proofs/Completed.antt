-- What the answer of the top call excludes where nothing fails, command by command.
use Rattle.std.proofs.Common.{Option, Some, None, refl}
use Rattle.vx_status.specs.declared.status.Status.{Status}
use Rattle.vx_command.specs.Command.{Command, Compile, Simulate, Execute, Count, Soak, Check}
use Rattle.vx_runs.specs.Boxes.{Boxes}
use Rattle.vx_files.specs.Effects.{Effect}
use Rattle.vx_runs.specs.Simulated.{Streams}
use Rattle.vx_commands.specs.Commands.{Answers, Completes}
use Rattle.vx_commands.proofs.Completing.{complete_in}
use Rattle.vx_runs.proofs.Simulating.{sim_completes}
use Rattle.vx_commands.proofs.Executed.{exec_completes}
use Rattle.vx_runs.proofs.CountLaws.{profile_completes}
use Rattle.vx_runs.proofs.Checking.{check_completes}
use Rattle.vx_commands.proofs.SoakLaws.{soak_completes}

pub completes : (command : Option Command) (boxes : Boxes) (e : Effect) (s : Streams) (status : Status) → Answers command boxes e s status → Completes command boxes e s status
completes None boxes e s status a = tt
completes (Some (Compile asked)) boxes e s status a = λ quiet_reads quiet_replaces. complete_in asked e status e.before refl quiet_reads quiet_replaces a
completes (Some (Simulate asked)) boxes e s status a = sim_completes asked boxes e s status a
completes (Some (Execute asked)) boxes e s status a = exec_completes asked boxes e s status a
completes (Some (Count asked)) boxes e s status a = profile_completes asked e s status a
completes (Some (Soak asked)) boxes e s status a = soak_completes asked boxes e s status a
completes (Some (Check asked)) boxes e s status a = check_completes asked e s status a
