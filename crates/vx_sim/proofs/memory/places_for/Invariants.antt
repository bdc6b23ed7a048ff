use Rattle.std.proofs.Common.{◌≡◌, [], map, length, replicate, vec_capacity}
use Rattle.vx_sim.specs.Flying.{flights_in}
use Rattle.vx_sim.proofs.memory.places_for.Given as goal

abbrev pub invariant-loop : goal.invariant-loop
invariant-loop l = record {
  empty : flights_in l.places.items ≡ replicate l.counter [];
  room : map vec_capacity l.places.items ≡ replicate l.counter l.room;
  len : length l.places.items ≡ l.counter;
}
