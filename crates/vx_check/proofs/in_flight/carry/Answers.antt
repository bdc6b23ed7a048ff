use Rattle.std.proofs.Common.{◌-◌, [], ◌∷◌, refl, arith}
use Rattle.std.proofs.lemmas.Result.{IfOk-weaker}
use Rattle.vx_check.specs.declared.in_flight.InFlight.{InFlight}
use Rattle.vx_check.specs.InFlight.{Carries, Joins}
use Rattle.vx_check.proofs.Entries.{carries_put}
use Rattle.vx_check.proofs.in_flight.carry.Goals as goal

pub returns : goal.returns
returns c =
    let later = c.if-write-cycles.false in
    let left : InFlight = record { to = c.args.write.to; left = c.args.write.left - c.args.cycles } in
    IfOk-weaker c.put.result (λ x. Joins c.args.list.now (left ∷ []) c.put.new.list) (λ x. Carries c.args.cycles (c.args.write ∷ []) c.args.list.now c.put.new.list)
    (λ x j. carries_put c.args.cycles c.args.write left c.args.list.now c.put.new.list refl (omega arith) (omega arith) j) c.put.ensures
