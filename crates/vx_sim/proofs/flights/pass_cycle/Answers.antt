use Rattle.std.proofs.Common.{◌≡◌, ◌∙◌, length}
use Rattle.std.proofs.lemmas.List.{length-map}
use Rattle.vx_sim.specs.Flying.{flights_in}
use Rattle.vx_sim.specs.Held.{held_by}
use Rattle.vx_sim.proofs.Turning.{cycle_lands, cycle_flies, cycle_room}
use Rattle.vx_sim.proofs.flights.pass_cycle.Goals as goal

pub returns-clause-lands : goal.returns-clause-lands
returns-clause-lands c =
    let ring = c.args.ring.now in
    let len : length (flights_in ring.places.items) ≡ 16 = length-map ring.places.items _ ∙ ring.sixteen in
    cycle_lands (flights_in ring.places.items) (flights_in c.land_at.new.places.items) ring.next len ring.within c.land_at.ensures.leaves (held_by c.args.registers.now) (held_by c.land_at.new.registers) c.land_at.ensures.lands

pub returns-clause-flies : goal.returns-clause-flies
returns-clause-flies c =
    let ring = c.args.ring.now in
    let len : length (flights_in ring.places.items) ≡ 16 = length-map ring.places.items _ ∙ ring.sixteen in
    cycle_flies (flights_in ring.places.items) (flights_in c.land_at.new.places.items) ring.next len ring.within c.land_at.ensures.leaves

pub returns-clause-has_room : goal.returns-clause-has_room
returns-clause-has_room c = λ widest here few room.
    let ring = c.args.ring.now in
    let len : length (flights_in ring.places.items) ≡ 16 = length-map ring.places.items _ ∙ ring.sixteen in
    (c.land_at.ensures.capacity ∙ room.0, cycle_room (flights_in ring.places.items) (flights_in c.land_at.new.places.items) ring.next len ring.within c.land_at.ensures.leaves widest here few room.1)
