use Rattle.std.proofs.Common.{◌∙◌, List, map, sym, ap}
use Rattle.vx_base.specs.Flight.{landed}
use Rattle.vx_isa.specs.Operations.{same}
use Rattle.vx_sim.specs.declared.flight.Flight.{Flight}
use Rattle.vx_sim.specs.Flying.{write_of}
use Rattle.vx_sim.specs.Held.{held_by}
use Rattle.vx_sim.proofs.Places.{place_is, place_set, capacity_stays}
use Rattle.vx_sim.proofs.flights.land_at.Goals as goal

pub returns-in-Some-clause-leaves : goal.returns-in-Some-clause-leaves
returns-in-Some-clause-leaves c = place_set c.args.places.now.items c.args.place c.clear.new.self _ c.clear.ensures.items

pub returns-in-Some-clause-capacity : goal.returns-in-Some-clause-capacity
returns-in-Some-clause-capacity c = capacity_stays c.args.places.now.items c.args.place c.in-Some.flights.now c.clear.new.self c.requires c.in-Some.ensures.value c.clear.ensures.capacity

pub returns-in-Some-clause-lands : goal.returns-in-Some-clause-lands
returns-in-Some-clause-lands c =
    let flights = c.in-Some.flights.now in
    c.land.ensures ∙ ap (λ (fs : List Flight). landed same (held_by c.args.registers.now) (map (write_of 0) fs)) (c.as_slice.ensures.value ∙ sym (place_is c.args.places.now.items c.args.place flights c.requires c.in-Some.ensures.value))
