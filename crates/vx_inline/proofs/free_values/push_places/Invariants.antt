use Rattle.std.proofs.Common.{◌≡◌, ◌++◌, take}
use Rattle.std.specs.List.{flat_map}
use Rattle.vx_inline.specs.Values.{local_places}
use Rattle.vx_inline.proofs.free_values.push_places.Given as goal

abbrev pub invariant-loop-block : goal.invariant-loop-block
invariant-loop-block l = l.values ≡ l.initial.values ++ flat_map (local_places l.arrays) (take l.block-index l.blocks)
