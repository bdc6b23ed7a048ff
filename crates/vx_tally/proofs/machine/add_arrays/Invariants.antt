use Rattle.std.proofs.Common.{◌≡◌, ◌++◌, take}
use Rattle.vx_tally.specs.Machine.{undefined_all}
use Rattle.vx_tally.proofs.machine.add_arrays.Given as goal

abbrev pub invariant-loop-array : goal.invariant-loop-array
invariant-loop-array l = l.arrays.items ≡ l.initial.arrays.items ++ undefined_all (take l.array-index l.own)
