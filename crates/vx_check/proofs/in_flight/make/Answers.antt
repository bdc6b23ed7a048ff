use Rattle.std.proofs.Common.{[], ◌∷◌, sym, ◌∙◌}
use Rattle.std.proofs.lemmas.Result.{IfOk-weaker}
use Rattle.vx_check.specs.declared.in_flight.InFlight.{InFlight}
use Rattle.vx_check.specs.InFlight.{Carries, Makes}
use Rattle.vx_check.proofs.Entries.{makes_carried}
use Rattle.vx_check.proofs.in_flight.make.Goals as goal

pub returns-else-is_zero : goal.returns-else-is_zero
returns-else-is_zero c =
    let write : InFlight = record { to = c.in-Some.to; left = c.latency-left.result } in
    IfOk-weaker c.carry.result (λ x. Carries c.args.cycles (write ∷ []) c.args.list.now c.carry.new.list) (λ x. Makes c.args.machine.now c.args.cycles (c.args.op.now ∷ []) c.args.list.now c.carry.new.list)
    (λ x k. makes_carried c.args.machine.now c.args.cycles c.args.op.now write c.args.list.now c.carry.new.list (sym c.destination.ensures ∙ c.in-Some.is) (sym c.is_zero.ensures ∙ c.if-is_zero.false) c.latency-left.ensures k) c.carry.ensures
