use Rattle.std.proofs.Common.{◌≡◌, drop}
use Rattle.vx_flow.specs.Meaning.{spots_held}
use Rattle.vx_tally.specs.Machine.{all_bases}
use Rattle.vx_tally.specs.Storage.{value_at}
use Rattle.vx_tally.proofs.Passing.{with_spots}
use Rattle.vx_tally.proofs.entering.spots.Given as goal

abbrev pub invariant-loop-array : goal.invariant-loop-array
invariant-loop-array l = spots_held l.count (value_at l.values) (all_bases l.arrays) ≡ with_spots l.spots.items (spots_held l.count (value_at l.values) (all_bases (drop l.array-index l.arrays)))
