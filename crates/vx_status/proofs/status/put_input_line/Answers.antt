-- The number of the place is the one that is put.
use Rattle.vx_status.proofs.status.put_input_line.Goals as goal

pub returns : goal.returns
returns g c = rw c.from.ensures at c.put_counted_line.ensures
