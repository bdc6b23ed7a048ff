use Rattle.std.proofs.Common.{◌≡◌, ◌++◌, take}
use Rattle.std.specs.List.{flat_map}
use Rattle.vx_inline.specs.Values.{local_place}
use Rattle.vx_inline.proofs.free_values.push_places_in.Given as goal

abbrev pub invariant-loop-op : goal.invariant-loop-op
invariant-loop-op l = l.values ≡ l.initial.values ++ flat_map (local_place l.arrays) (take l.op-index l.ops)
