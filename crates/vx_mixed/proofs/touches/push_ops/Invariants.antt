use Rattle.std.proofs.Common.{◌≡◌, ◌++◌, take}
use Rattle.std.specs.List.{flat_map}
use Rattle.vx_mixed.specs.Routes.{op_touches}
use Rattle.vx_mixed.proofs.touches.push_ops.Given as goal

abbrev pub invariant-loop-op : goal.invariant-loop-op
invariant-loop-op l = l.touches ≡ l.initial.touches ++ flat_map op_touches (take l.op-index l.ops)
