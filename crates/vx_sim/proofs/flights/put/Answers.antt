use Rattle.std.proofs.Common.{◌≡◌, ◌∙◌, ◌+◌, ◌-◌, ◌*◌, ◌%◌, ◌<◌, [], length, map, get_or, vec_capacity, refl, ap, arith}
use Rattle.std.proofs.lemmas.List.{length-map, get_or-replicate}
use Rattle.vx_sim.specs.Flying.{flights_in}
use Rattle.vx_sim.proofs.Turning.{puts_it, put_room, room_at}
use Rattle.vx_sim.proofs.flights.put.Goals as goal

pub put_at-requires-clause-room : goal.put_at-requires-clause-room
put_at-requires-clause-room c =
    let ring = c.args.ring.now in
    let r = c.requires.room in
    let widest = r.0 in
    let here = r.1 in
    let has = r.3 in
    let xs = flights_in ring.places.items in
    let len : length xs ≡ 16 = length-map ring.places.items _ ∙ ring.sixteen in
    let place = (ring.next + c.args.left - 1) % 16 in
    let full : get_or (map vec_capacity ring.places.items) place 0 ≡ 16 * widest = ap (λ ns. get_or ns place 0) has.0 ∙ get_or-replicate 16 place (16 * widest) 0 (let h : place < 16 = omega arith in h) in
    let free : length (get_or xs place []) < 16 * widest = room_at xs ring.next c.args.left place len ring.within c.requires.some c.requires.in_time refl widest here r.2 has.1 in
    omega (arith, full, free)

pub returns-clause-puts : goal.returns-clause-puts
returns-clause-puts c =
    let ring = c.args.ring.now in
    let len : length (flights_in ring.places.items) ≡ 16 = length-map ring.places.items _ ∙ ring.sixteen in
    puts_it (flights_in ring.places.items) (flights_in c.put_at.new.places.items) ring.next c.args.left ((ring.next + c.args.left - 1) % 16) c.args.flight len ring.within c.requires.some c.requires.in_time refl c.put_at.ensures.puts

pub returns-clause-has_room : goal.returns-clause-has_room
returns-clause-has_room c = λ widest here lt room.
    let ring = c.args.ring.now in
    let len : length (flights_in ring.places.items) ≡ 16 = length-map ring.places.items _ ∙ ring.sixteen in
    (c.put_at.ensures.capacity ∙ room.0, put_room (flights_in ring.places.items) (flights_in c.put_at.new.places.items) ring.next c.args.left ((ring.next + c.args.left - 1) % 16) c.args.flight len ring.within c.requires.some c.requires.in_time refl c.put_at.ensures.puts widest here room.1)
