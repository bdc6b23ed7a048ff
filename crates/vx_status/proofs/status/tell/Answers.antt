-- What the call that puts the line says.
use Rattle.vx_status.proofs.Appending.{adds_put, tells_of}
use Rattle.vx_status.proofs.status.tell.Goals as goal

pub returns-clause-tells : goal.returns-clause-tells
returns-clause-tells g c = tells_of c.put_line.result _ c.put_line.ensures

pub returns-clause-adds : goal.returns-clause-adds
returns-clause-adds g c = adds_put c.put_line.result _ c.put_line.ensures
