-- What the words ask for is done, or they are refused.
use Rattle.std.proofs.Common.{refl}
use Rattle.vx_commands.proofs.Performing.{performed_of, read_refused}
use Rattle.vx_commands.proofs.commands.perform_soak.Goals as goal

pub returns-in-Ok : goal.returns-in-Ok
returns-in-Ok g c = λ e probes reads. performed_of _ _ e _ _ _ c.in-Ok.ensures.asked (c.soak.ensures e probes reads)

pub returns-in-Err : goal.returns-in-Err
returns-in-Err g c = λ e probes reads. read_refused _ _ e _ _ reads refl refl (rw c.refuse.ensures.same c.in-Err.ensures.refused) c.refuse.ensures.tells c.refuse.ensures.adds
