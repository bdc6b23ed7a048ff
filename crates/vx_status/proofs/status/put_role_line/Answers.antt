-- The pieces of a line, one behind the other.
use Rattle.std.proofs.Common.{◌∷◌, []}
use Rattle.vx_status.proofs.Appending.{cut_before, fails, puts_behind}
use Rattle.vx_status.proofs.status.put_role_line.Goals as goal

pub returns-in_err-put_named : goal.returns-in_err-put_named
returns-in_err-put_named g c = rw c.role_name.ensures at (fails _ _ c.from_residual.ensures.0 (cut_before _ (10 ∷ []) c.in_err-put_named.ensures))

pub returns : goal.returns
returns g c = rw c.role_name.ensures at (puts_behind _ _ _ c.in_ok-put_named.ensures c.put.ensures)
