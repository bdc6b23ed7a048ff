-- The pieces of a line, one behind the other.
use Rattle.std.proofs.Common.{◌∷◌, [], append_assoc, sym}
use Rattle.vx_status.specs.Status.{counted}
use Rattle.vx_status.proofs.Appending.{cut_before, fails, puts_as, puts_behind}
use Rattle.vx_status.proofs.status.put_twice_counted.Goals as goal

pub returns-in_err-put_counted : goal.returns-in_err-put_counted
returns-in_err-put_counted g c = fails _ _ c.from_residual.ensures.0 (cut_before _ (10 ∷ []) (cut_before _ (counted c.args.more.now c.args.other) c.in_err-put_counted.ensures))

pub returns : goal.returns
returns g c =
    puts_as (sym (append_assoc (counted c.args.words.now c.args.number) (counted c.args.more.now c.args.other) (10 ∷ []))) (puts_behind _ _ _ c.in_ok-put_counted.ensures c.put_counted_line.ensures)
