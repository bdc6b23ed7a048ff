-- What an answer puts on the error stream, command by command.
use Rattle.std.specs.Prelude.{◌≡◌, List, ℕ, codes, Option, Some, None}
use Rattle.vx_io.specs.Outside.{with_bytes}
use Rattle.vx_status.specs.declared.status.Status.{Status}
use Rattle.vx_status.specs.declared.status.Status.TheVariants.{Done, Trapped, Usage, WriteFault, Stopped, Stuck}
use Rattle.vx_status.specs.Status.{no_box_line, status_line}
use Rattle.vx_command.specs.Command.{Command, Compile, Simulate, Execute, Count, Soak, Check}
use Rattle.vx_runs.specs.Boxes.{Boxes, Chosen, chosen, unknown_name}
use Rattle.vx_runs.specs.Simulated.{Streams, ErrRose, ErrTells}

-- of `sim` and `exec` the answers say the lines of a run, also where a put of these failed, by which the count of faults of the
-- error stream rose
abbrev pub TellsRun : Streams → Status → Type 0
TellsRun s Done = Unit {0}
TellsRun s (Trapped trap) = Unit {0}
TellsRun s WriteFault = (ErrRose s → ⊥) → s.err_after ≡ with_bytes s.err_before (status_line WriteFault)
TellsRun s Stopped = Unit {0}
TellsRun s (Stuck reason place) = Unit {0}
TellsRun s status = ErrTells (status_line status) s

-- a name that no box has is told
abbrev pub TellsBox : (Status → Type 0) → Option Chosen → (name : List ℕ) → Streams → Status → Type 0
TellsBox tells (Some boxes) name s status = tells status
TellsBox tells None name s Usage = ErrTells (no_box_line name) s
TellsBox tells None name s status = ErrTells (status_line status) s

-- what an answer puts on the error stream: the line of its status; words that are no command have the text of clap in its place
abbrev pub TellsLine : Option Command → Boxes → Streams → Status → Type 0
TellsLine None boxes s Usage = Unit {0}
TellsLine None boxes s status = ErrTells (status_line status) s
TellsLine (Some (Compile asked)) boxes s status = ErrTells (status_line status) s
TellsLine (Some (Simulate asked)) boxes s status = TellsBox (TellsRun s) (chosen asked.timing asked.probe boxes) (unknown_name asked.timing asked.probe boxes) s status
TellsLine (Some (Execute asked)) boxes s status = TellsBox (TellsRun s) (chosen asked.timing asked.probe boxes) (unknown_name asked.timing asked.probe boxes) s status
TellsLine (Some (Count asked)) boxes s status = ErrTells (status_line status) s
TellsLine (Some (Soak asked)) boxes s status = TellsBox (λ other. ErrTells (status_line other) s) (chosen (codes "late") None boxes) (codes "late") s status
TellsLine (Some (Check asked)) boxes s status = ErrTells (status_line status) s
