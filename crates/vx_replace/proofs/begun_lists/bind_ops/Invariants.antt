use Rattle.std.proofs.Common.{◌≡◌, take}
use Rattle.vx_mixed.specs.FromGraph.{bound_in}
use Rattle.vx_replace.proofs.begun_lists.bind_ops.Given as goal

abbrev pub invariant-loop-op : goal.invariant-loop-op
invariant-loop-op l = l.homes.items ≡ bound_in (take l.op-index l.ops) l.initial.homes.items
