use Rattle.std.proofs.Common.{◌≡◌, ◌++◌, take}
use Rattle.vx_inline.specs.Values.{given_bases}
use Rattle.vx_inline.proofs.free_values.push_bases.Given as goal

abbrev pub invariant-loop-array : goal.invariant-loop-array
invariant-loop-array l = l.values ≡ l.initial.values ++ given_bases (take l.array-index l.arrays)
