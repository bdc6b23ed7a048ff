-- The report and the line feed, one behind the other.
use Rattle.std.proofs.Common.{◌∷◌, []}
use Rattle.vx_status.proofs.Appending.{cut_before, fails, puts_behind}
use Rattle.vx_runs.proofs.boxes.put_report.Goals as goal

pub returns-in_err-put : goal.returns-in_err-put
returns-in_err-put g c = fails _ _ c.from_residual.ensures.0 (cut_before _ (10 ∷ []) (rw c.report_in-length.ensures.written at c.in_err-put.ensures))

pub returns : goal.returns
returns g c = puts_behind _ _ _ (rw c.report_in-length.ensures.written at c.in_ok-put.ensures) c.put-2.ensures
