-- The name behind a blank.
use Rattle.vx_status.proofs.status.put_field_name.Goals as goal

pub returns : goal.returns
returns g c = rw c.field_name.ensures at c.put_named.ensures
