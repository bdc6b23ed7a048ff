-- The pieces of a line, one behind the other.
use Rattle.std.specs.Prelude.{codes}
use Rattle.vx_status.specs.Status.{twice_counted}
use Rattle.vx_status.proofs.Appending.{cut_before, fails, puts_behind}
use Rattle.vx_status.proofs.status.put_source_line.Goals as goal

pub returns-in_err-put_counted : goal.returns-in_err-put_counted
returns-in_err-put_counted g c = rw c.from.ensures at (fails _ _ c.from_residual.ensures.0 (cut_before _ (twice_counted (codes " at ") c.args.line (codes ":") c.args.column) c.in_err-put_counted.ensures))

pub returns : goal.returns
returns g c = rw (c.from.ensures, c.from-2.ensures, c.from-3.ensures) at (puts_behind _ _ _ c.in_ok-put_counted.ensures c.put_twice_counted.ensures)
