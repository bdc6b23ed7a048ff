use Rattle.std.proofs.Common.{List, [], ◌∷◌, sym, subst}
use Rattle.vx_check.specs.declared.in_flight.InFlight.{InFlight}
use Rattle.vx_check.specs.InFlight.{Joins}
use Rattle.vx_check.proofs.Entries.{joins_put}
use Rattle.vx_check.proofs.in_flight.put.Goals as goal

pub returns : goal.returns
returns c = subst (λ (l : List InFlight). Joins c.args.list.now (c.args.write ∷ []) l) (sym c.in_ok-push.ensures.ok) (joins_put c.args.list.now c.args.write)
