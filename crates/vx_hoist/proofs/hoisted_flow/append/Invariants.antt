use Rattle.std.proofs.Common.{◌≡◌, ◌++◌, take}
use Rattle.vx_hoist.proofs.hoisted_flow.append.Given as goal

abbrev pub invariant-loop-op : goal.invariant-loop-op
invariant-loop-op l = l.list ≡ l.initial.list ++ take l.op-index l.ops
