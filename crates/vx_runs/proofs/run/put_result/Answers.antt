-- The pieces of the line, one behind the other.
use Rattle.std.proofs.Common.{◌∷◌, []}
use Rattle.std.specs.Int.{w32}
use Rattle.std.specs.Fmt.{signed_decimal}
use Rattle.std.proofs.lemmas.Int.{to_z-of_z}
use Rattle.vx_status.proofs.Appending.{cut_before, fails, puts_behind}
use Rattle.vx_runs.proofs.run.put_result.Goals as goal

pub returns-in_err-put : goal.returns-in_err-put
returns-in_err-put g c = fails _ _ c.from_residual.ensures.0 (cut_before _ (10 ∷ []) (cut_before _ (signed_decimal c.args.number) c.in_err-put.ensures))

pub returns-in_err-put_signed : goal.returns-in_err-put_signed
returns-in_err-put_signed g c =
    fails _ _ c.from_residual-in_err-put_signed.ensures.0 (cut_before _ (10 ∷ []) (puts_behind _ _ _ c.in_ok-put.ensures (rw (to_z-of_z w32 c.args.number c.ranges.number) at c.in_err-put_signed.ensures)))

pub returns : goal.returns
returns g c = puts_behind _ _ _ (puts_behind _ _ _ c.in_ok-put.ensures (rw (to_z-of_z w32 c.args.number c.ranges.number) at c.in_ok-put_signed.ensures)) c.put-2.ensures
