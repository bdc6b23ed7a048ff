-- The command of the name is performed, or none is named.
use Rattle.std.proofs.Common.{inr, refl}
use Rattle.vx_runs.proofs.Reading.{read_nothing}
use Rattle.vx_commands.proofs.Performing.{performed_named, performed_none}
use Rattle.vx_commands.proofs.commands.perform_named.Goals as goal

pub returns-in-Compile : goal.returns-in-Compile
returns-in-Compile g c = performed_named _ _ _ _ _ _ _ c.in-Compile.ensures.known (c.in-Compile.ensures.asks _) (c.perform_compile.ensures _ _ _)

pub returns-in-Sim : goal.returns-in-Sim
returns-in-Sim g c = performed_named _ _ _ _ _ _ _ c.in-Sim.ensures.known (c.in-Sim.ensures.asks _) c.perform_sim.ensures

pub returns-in-Exec : goal.returns-in-Exec
returns-in-Exec g c = performed_named _ _ _ _ _ _ _ c.in-Exec.ensures.known (c.in-Exec.ensures.asks _) c.perform_exec.ensures

pub returns-in-Profile : goal.returns-in-Profile
returns-in-Profile g c = performed_named _ _ _ _ _ _ _ c.in-Profile.ensures.known (c.in-Profile.ensures.asks _) (c.perform_profile.ensures _)

pub returns-in-Soak : goal.returns-in-Soak
returns-in-Soak g c = performed_named _ _ _ _ _ _ _ c.in-Soak.ensures.known (c.in-Soak.ensures.asks _) (c.perform_soak.ensures _ _ (read_nothing _ _ _))

pub returns-in-Check : goal.returns-in-Check
returns-in-Check g c = performed_named _ _ _ _ _ _ _ c.in-Check.ensures.known (c.in-Check.ensures.asks _) (c.perform_check.ensures _)

pub returns-in-Nothing : goal.returns-in-Nothing
returns-in-Nothing g c = performed_none _ _ _ _ _ _ (record { files = refl; reads = refl; replaces = refl; output = refl; faults = refl }) (inr (c.tell.ensures.same, c.in-Nothing.ensures.asks _)) c.tell.ensures.tells c.tell.ensures.adds
