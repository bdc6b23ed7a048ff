-- No status is always an answer: for each command that reads a file, and each number of a status but that of want of memory, there
-- are files over which the command may not be answered by a status of that number; and for `soak`, which reads none, there are boxes.
use Rattle.std.specs.Prelude.{◌≡◌, ◌≢◌, ℕ, Some}
use Rattle.vx_io.specs.Outside.{Files}
use Rattle.vx_status.specs.declared.status.Status.{Status}
use Rattle.vx_status.specs.declared.status.Status.TheVariants.{NoMemory}
use Rattle.vx_status.specs.Status.{number_of}
use Rattle.vx_command.specs.Command.{Command, Soaking, Compile, Simulate, Execute, Count, Soak, Check}
use Rattle.vx_runs.specs.Boxes.{Boxes, Chosen, chosen}
use Rattle.vx_files.specs.Effects.{Effect, ReadsRose, ReplacesRose}
use Rattle.vx_runs.specs.Simulated.{Streams, OutRose, ErrRose}
use Rattle.vx_commands.specs.Commands.{Answers, Completes}

-- the top call may answer a command so over these files: the depot tells them, and no reading, replacing or putting fails
pub record MayAnswer (command : Command) (boxes : Boxes) (held : Files) (status : Status) : Type 0 where
  pub effect : Effect
  pub streams : Streams
  pub told : effect.before ≡ Some held
  pub no_read_failed : ReadsRose effect → ⊥
  pub no_replacing_failed : ReplacesRose effect → ⊥
  pub no_output_failed : OutRose streams → ⊥
  pub no_line_failed : ErrRose streams → ⊥
  pub answers : Answers (Some command) boxes effect streams status
  pub completes : Completes (Some command) boxes effect streams status

-- the boxes that a command asks for are there, and it reads a file
abbrev pub CanRead : Command → Boxes → Type 0
CanRead (Compile asked) boxes = Unit {0}
CanRead (Simulate asked) boxes = (these : Chosen) × (chosen asked.timing asked.probe boxes ≡ Some these)
CanRead (Execute asked) boxes = (these : Chosen) × (chosen asked.timing asked.probe boxes ≡ Some these)
CanRead (Count asked) boxes = Unit {0}
CanRead (Soak asked) boxes = ⊥
CanRead (Check asked) boxes = Unit {0}

-- so no body that always gives a status of one number meets the clauses of the top call for a command that reads a file
abbrev pub NoStatusIsAlways : Type 0
NoStatusIsAlways =
    (command : Command) (boxes : Boxes) (number : ℕ) → CanRead command boxes → number ≢ number_of NoMemory →
    (held : Files) × ((status : Status) → number_of status ≡ number → MayAnswer command boxes held status → ⊥)

-- `soak` reads no file, but it asks for a timing that is called `late`: for each number there are boxes among which it has that one, or
-- has not, so that the command may not be answered by a status of that number
abbrev pub NoStatusOfSoakIsAlways : Type 0
NoStatusOfSoakIsAlways =
    (asked : Soaking) (number : ℕ) → number ≢ number_of NoMemory →
    (boxes : Boxes) × ((held : Files) (status : Status) → number_of status ≡ number → MayAnswer (Soak asked) boxes held status → ⊥)
