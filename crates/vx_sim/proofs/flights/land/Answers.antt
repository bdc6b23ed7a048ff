use Rattle.std.proofs.Common.{◌∙◌, sym, ap, map, drop, ◌+◌, arith, drop_of_length-le}
use Rattle.vx_base.specs.Flight.{landed}
use Rattle.vx_isa.specs.Operations.{same}
use Rattle.vx_sim.specs.Flying.{write_of}
use Rattle.vx_sim.specs.Held.{held_by}
use Rattle.vx_sim.proofs.Flying.{land_more, item_here}
use Rattle.vx_sim.proofs.flights.land.Goals as goal

pub loop-flight-preserved : goal.loop-flight-preserved
loop-flight-preserved c =
    let held = held_by c.loop-flight.registers in
    let f = c.flight-item.result in
    land_more held (held_by c.make_write.new.registers) _ f (drop (c.loop-flight.flight-index + 1) c.args.flights.now) c.make_write.ensures
    (ap (λ fs. landed same held (map (write_of 0) fs)) (sym (item_here c.args.flights.now c.loop-flight.flight-index f (omega (arith, c.loop-flight-test.true)) c.flight-item.is)) ∙ c.loop-flight.invariant)

pub returns : goal.returns
returns c =
    ap (λ fs. landed same (held_by c.loop-flight.registers) (map (write_of 0) fs)) (sym (drop_of_length-le c.args.flights.now (omega (arith, c.loop-flight-test.false)))) ∙ c.loop-flight.invariant
