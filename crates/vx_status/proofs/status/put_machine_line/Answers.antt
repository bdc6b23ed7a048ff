-- The pieces of a line, one behind the other.
use Rattle.std.proofs.Common.{◌∷◌, []}
use Rattle.vx_status.specs.Status.{field_words}
use Rattle.vx_status.proofs.Appending.{cut_before, fails, puts_behind}
use Rattle.vx_status.proofs.status.put_machine_line.Goals as goal

pub returns-in_err-put_counted : goal.returns-in_err-put_counted
returns-in_err-put_counted g c = rw c.from.ensures at (fails _ _ c.from_residual.ensures.0 (cut_before _ (10 ∷ []) (cut_before _ (field_words c.args.field) c.in_err-put_counted.ensures)))

pub returns-in_err-put_field : goal.returns-in_err-put_field
returns-in_err-put_field g c = rw c.from.ensures at (fails _ _ c.from_residual-in_err-put_field.ensures.0 (cut_before _ (10 ∷ []) (puts_behind _ _ _ c.in_ok-put_counted.ensures c.in_err-put_field.ensures)))

pub returns : goal.returns
returns g c = rw c.from.ensures at (puts_behind _ _ _ (puts_behind _ _ _ c.in_ok-put_counted.ensures c.in_ok-put_field.ensures) c.put.ensures)
