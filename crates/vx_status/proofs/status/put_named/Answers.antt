-- The name behind the words.
use Rattle.vx_status.proofs.Appending.{cut_before, fails, puts_behind}
use Rattle.vx_status.proofs.status.put_named.Goals as goal

pub returns-in_err-put : goal.returns-in_err-put
returns-in_err-put g c = fails _ _ c.from_residual.ensures.0 (cut_before _ c.args.name.now c.in_err-put.ensures)

pub returns : goal.returns
returns g c = puts_behind _ _ _ c.in_ok-put.ensures c.put_text.ensures
