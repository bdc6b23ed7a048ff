use Rattle.std.proofs.Common.{◌≡◌, take, true}
use Rattle.std.specs.List.{list_all}
use Rattle.vx_rename.specs.Renaming.{array_enters}
use Rattle.vx_rename.proofs.bases.arrays_enter.Given as goal

abbrev pub invariant-loop-array : goal.invariant-loop-array
invariant-loop-array l = list_all (array_enters l.old l.new) (take l.array-index l.arrays) ≡ true
