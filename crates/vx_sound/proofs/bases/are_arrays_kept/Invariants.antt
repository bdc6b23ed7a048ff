use Rattle.std.proofs.Common.{◌≡◌, true, take}
use Rattle.std.specs.List.{list_all}
use Rattle.vx_flow.specs.Sound.{is_array_kept}
use Rattle.vx_sound.proofs.bases.are_arrays_kept.Given as goal

abbrev pub invariant-loop-array : goal.invariant-loop-array
invariant-loop-array l = list_all (is_array_kept l.graph) (take l.array-index l.arrays) ≡ true
