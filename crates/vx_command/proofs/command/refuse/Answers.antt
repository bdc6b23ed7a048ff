-- A refusal whose text is put.
use Rattle.std.proofs.Common.{refl}
use Rattle.vx_status.proofs.Appending.{adds_put}
use Rattle.vx_command.proofs.command.refuse.Goals as goal

pub returns-in-Usage-Some-clause-tells : goal.returns-in-Usage-Some-clause-tells
returns-in-Usage-Some-clause-tells g c = λ other. absurd (other refl)

pub returns-in-Usage-Some-clause-adds : goal.returns-in-Usage-Some-clause-adds
returns-in-Usage-Some-clause-adds g c = adds_put c.put.result _ c.put.ensures
