use Rattle.std.proofs.Common.{◌≡◌, ◌++◌, take}
use Rattle.std.specs.List.{flat_map}
use Rattle.vx_flow.specs.Live.{touches_of}
use Rattle.vx_flow.proofs.liveness.push_ops.Given as goal

abbrev pub invariant-loop-op : goal.invariant-loop-op
invariant-loop-op l = l.touches ≡ l.initial.touches ++ flat_map touches_of (take l.op-index l.ops)
