-- The line is put, whole, or a front of it.
use Rattle.std.proofs.Common.{[], refl}
use Rattle.vx_status.proofs.Appending.{adds_told, tells_nothing}
use Rattle.vx_runs.specs.Checking.{whole, cut}
use Rattle.vx_runs.proofs.check.put_strict.Goals as goal

pub returns-in-Ok-clause-puts : goal.returns-in-Ok-clause-puts
returns-in-Ok-clause-puts g c = whole refl refl c.in-Ok.ensures.all

pub returns-in-Err-clause-puts : goal.returns-in-Err-clause-puts
returns-in-Err-clause-puts g c = cut refl c.tell.ensures.same c.in-Err.ensures.failed c.in-Err.ensures.front

pub returns-in-Ok-clause-tells : goal.returns-in-Ok-clause-tells
returns-in-Ok-clause-tells g c = tells_nothing _ _

pub returns-in-Ok-clause-adds : goal.returns-in-Ok-clause-adds
returns-in-Ok-clause-adds g c = adds_told [] (tells_nothing _ _)
