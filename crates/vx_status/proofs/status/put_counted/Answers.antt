-- The pieces of a line, one behind the other.
use Rattle.std.specs.Prelude.{decimal}
use Rattle.vx_status.proofs.Appending.{cut_before, fails, puts_behind}
use Rattle.vx_status.proofs.status.put_counted.Goals as goal

pub returns-in_err-put : goal.returns-in_err-put
returns-in_err-put g c = fails _ _ c.from_residual.ensures.0 (cut_before _ (decimal c.args.number) c.in_err-put.ensures)

pub returns : goal.returns
returns g c = puts_behind _ _ _ c.in_ok-put.ensures c.put_number.ensures
