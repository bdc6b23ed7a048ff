use Rattle.std.proofs.Common.{◌≡◌, true, take}
use Rattle.std.specs.List.{list_all}
use Rattle.vx_flow.specs.declared.graph.Array.{Array}
use Rattle.vx_inline.proofs.fitting.are_global.Given as goal

abbrev pub invariant-loop-array : goal.invariant-loop-array
invariant-loop-array l = list_all (λ (array : Array). array.global) (take l.array-index l.arrays) ≡ true
