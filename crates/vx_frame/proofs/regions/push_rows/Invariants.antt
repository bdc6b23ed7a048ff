use Rattle.std.proofs.Common.{◌≡◌, ◌++◌, length, map}
use Rattle.vx_frame.specs.Regions.{traced}
use Rattle.vx_frame.proofs.regions.push_rows.Given as goal

abbrev pub invariant-loop-places : goal.invariant-loop-places
invariant-loop-places l = record {
  made : l.regions ≡ l.initial.regions ++ map traced l.yielded;
  rest : l.yielded ++ l.places-iterator.rest.items ≡ l.fn.rows.items;
  left : length l.places-iterator.rest.items ≡ l.places-iterator.rest.len;
}
