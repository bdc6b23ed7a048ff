-- The pieces of a line, one behind the other.
use Rattle.std.proofs.Common.{◌∷◌, []}
use Rattle.vx_status.proofs.Appending.{cut_before, fails, puts_behind}
use Rattle.vx_status.proofs.status.put_counted_line.Goals as goal

pub returns-in_err-put_counted : goal.returns-in_err-put_counted
returns-in_err-put_counted g c = fails _ _ c.from_residual.ensures.0 (cut_before _ (10 ∷ []) c.in_err-put_counted.ensures)

pub returns : goal.returns
returns g c = puts_behind _ _ _ c.in_ok-put_counted.ensures c.put.ensures
