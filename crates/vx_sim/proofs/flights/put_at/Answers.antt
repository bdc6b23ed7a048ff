use Rattle.std.proofs.Common.{◌≡◌, ◌∙◌, [], ◌∷◌, ◌++◌, get_or, sym, ap}
use Rattle.vx_sim.specs.Flying.{flights_in}
use Rattle.vx_sim.proofs.Places.{place_is, place_set, capacity_stays}
use Rattle.vx_sim.proofs.flights.put_at.Goals as goal

pub returns-in-Some-clause-puts : goal.returns-in-Some-clause-puts
returns-in-Some-clause-puts c =
    let places = c.args.places.now.items in
    let here : get_or (flights_in places) c.args.place [] ≡ c.in-Some.flights.now.items = place_is places c.args.place c.in-Some.flights.now c.requires.there c.in-Some.ensures.value in
    let behind : c.append.new.flights.items ≡ get_or (flights_in places) c.args.place [] ++ c.args.flight ∷ [] = c.append.ensures.last ∙ ap (λ fs. fs ++ c.args.flight ∷ []) (sym here) in
    place_set places c.args.place c.append.new.flights _ behind

pub returns-in-Some-clause-capacity : goal.returns-in-Some-clause-capacity
returns-in-Some-clause-capacity c = capacity_stays c.args.places.now.items c.args.place c.in-Some.flights.now c.append.new.flights c.requires.there c.in-Some.ensures.value c.append.ensures.capacity
