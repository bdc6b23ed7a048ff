-- The pieces of a line, one behind the other.
use Rattle.std.proofs.Common.{◌∷◌, []}
use Rattle.vx_status.proofs.Appending.{cut_before, fails, puts_behind}
use Rattle.vx_runs.proofs.run.put_no_box.Goals as goal

pub returns-in_err-put : goal.returns-in_err-put
returns-in_err-put g c = fails _ _ c.from_residual.ensures.0 (cut_before _ (10 ∷ []) (cut_before _ c.args.name.now c.in_err-put.ensures))

pub returns-in_err-put_text : goal.returns-in_err-put_text
returns-in_err-put_text g c = fails _ _ c.from_residual-in_err-put_text.ensures.0 (cut_before _ (10 ∷ []) (puts_behind _ _ _ c.in_ok-put.ensures c.in_err-put_text.ensures))

pub returns : goal.returns
returns g c = puts_behind _ _ _ (puts_behind _ _ _ c.in_ok-put.ensures c.in_ok-put_text.ensures) c.put-2.ensures
