-- What the words ask for is done, or they are refused.
use Rattle.std.proofs.Common.{refl}
use Rattle.vx_commands.proofs.Performing.{performed_of, performed_refused}
use Rattle.vx_commands.proofs.commands.perform_profile.Goals as goal

pub returns-in-Ok : goal.returns-in-Ok
returns-in-Ok g c = λ boxes. performed_of _ boxes _ _ _ _ c.in-Ok.ensures.asked (c.profile.ensures boxes)

pub returns-in-Err : goal.returns-in-Err
returns-in-Err g c = λ boxes. performed_refused _ boxes _ _ _ (record { files = refl; reads = refl; replaces = refl; output = refl; faults = refl }) (rw c.refuse.ensures.same c.in-Err.ensures.refused) c.refuse.ensures.tells c.refuse.ensures.adds
