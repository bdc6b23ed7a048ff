-- What the words ask for is done, or they are refused.
use Rattle.std.proofs.Common.{refl}
use Rattle.vx_commands.proofs.Performing.{performed_of, performed_refused}
use Rattle.vx_commands.proofs.commands.perform_exec.Goals as goal

pub returns-in-Ok : goal.returns-in-Ok
returns-in-Ok g c = performed_of _ _ _ _ _ _ c.in-Ok.ensures.asked c.execute_with.ensures

pub returns-in-Err : goal.returns-in-Err
returns-in-Err g c = performed_refused _ _ _ _ _ (record { files = refl; reads = refl; replaces = refl; output = refl; faults = refl }) (rw c.refuse.ensures.same c.in-Err.ensures.refused) c.refuse.ensures.tells c.refuse.ensures.adds
