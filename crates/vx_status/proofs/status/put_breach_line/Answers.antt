-- The pieces of a line, one behind the other.
use Rattle.std.proofs.Common.{◌∷◌, [], append_assoc, sym}
use Rattle.std.specs.Prelude.{codes}
use Rattle.vx_status.specs.Status.{counted}
use Rattle.vx_status.proofs.Appending.{cut_before, fails, puts_as, puts_behind}
use Rattle.vx_status.proofs.status.put_breach_line.Goals as goal

pub returns-in_err-put_text : goal.returns-in_err-put_text
returns-in_err-put_text g c = rw c.breach_name.ensures at (fails _ _ c.from_residual.ensures.0 (cut_before _ (10 ∷ []) (cut_before _ (counted (codes " at word ") c.args.place) c.in_err-put_text.ensures)))

pub returns : goal.returns
returns g c =
    let whole = puts_behind _ _ _ c.in_ok-put_text.ensures c.put_counted_line.ensures in
    rw (c.breach_name.ensures, c.from.ensures) at (puts_as (sym (append_assoc c.breach_name.result.now (counted (codes " at word ") c.from.result) (10 ∷ []))) whole)
