-- Which step before its run stops an execution, and by which status.
use Rattle.std.specs.Prelude.{◌≡◌, ◌⊎◌, ℕ, List, true, is_some, Option, IfSome}
use Rattle.vx_isa.specs.Numbers.{Numbers}
use Rattle.vx_status.specs.declared.status.Status.{Status}
use Rattle.vx_status.specs.declared.status.Status.TheVariants.{NoMemory}
use Rattle.vx_command.specs.Command.{Execution}
use Rattle.vx_files.specs.Effects.{Effect, SourceAnswers, InputAnswers}
use Rattle.vx_files.specs.Held.{ProfileStands, Is, machine_found}
use Rattle.vx_commands.specs.Answers.{StopsAtProfile, StopsAtMachine, NoProfile, NoMachine}
use Rattle.vx_commands.specs.Executed.{StopsAtInput}

-- no input stands, and the status says why
pub record NoInput (machine input : Option (List ℕ)) (e : Effect) (status : Status) : Type 0 where
  pub named : is_some input ≡ true
  pub numbers : Numbers
  pub machine_is : IfSome e.before (λ held. machine_found held machine ≡ Is numbers)
  pub answers : InputAnswers input e status

-- a step behind the reading of the profile stops an execution
abbrev pub LaterStops : (machine input : Option (List ℕ)) → Effect → Status → Type 0
LaterStops machine input e status = (status ≡ NoMemory) ⊎ NoMachine machine e status ⊎ NoInput machine input e status

-- the profile stands, and a step behind its reading stops an execution
pub record StopsProfiled (profile machine input : Option (List ℕ)) (e : Effect) (status : Status) : Type 0 where
  pub profiled : IfSome e.before (λ held. ProfileStands held profile)
  pub stops : LaterStops machine input e status

-- a step behind the reading of the source stops an execution
abbrev pub AfterSource : (profile machine input : Option (List ℕ)) → Effect → Status → Type 0
AfterSource profile machine input e status = NoProfile profile e status ⊎ StopsProfiled profile machine input e status

-- a step before the run stops an execution
abbrev pub StopsBefore : Execution → Effect → Status → Type 0
StopsBefore asked e status =
    (status ≡ NoMemory) ⊎ SourceAnswers asked.source e status ⊎ StopsAtProfile asked.source asked.profile e status ⊎ StopsAtMachine asked.source asked.profile asked.machine e status ⊎ StopsAtInput asked e status
