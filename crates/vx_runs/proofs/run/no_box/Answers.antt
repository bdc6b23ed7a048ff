-- The line may be lost.
use Rattle.vx_status.proofs.Appending.{tells_of, adds_put}
use Rattle.vx_runs.proofs.run.no_box.Goals as goal

pub returns-clause-line : goal.returns-clause-line
returns-clause-line g c = tells_of c.put_no_box.result _ c.put_no_box.ensures

pub returns-clause-adds : goal.returns-clause-adds
returns-clause-adds g c = adds_put c.put_no_box.result _ c.put_no_box.ensures
