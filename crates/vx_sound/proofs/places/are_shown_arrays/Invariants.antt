use Rattle.std.proofs.Common.{◌≡◌, true, take}
use Rattle.std.specs.List.{list_all}
use Rattle.vx_sound.specs.Origins.{is_shown_array}
use Rattle.vx_sound.proofs.places.are_shown_arrays.Given as goal

abbrev pub invariant-loop-array : goal.invariant-loop-array
invariant-loop-array l = list_all (is_shown_array l.origins l.graph) (take l.array-index l.arrays) ≡ true
