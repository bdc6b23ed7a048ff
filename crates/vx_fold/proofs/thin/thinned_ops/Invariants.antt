use Rattle.std.proofs.Common.{◌≡◌, ◌++◌, drop}
use Rattle.vx_fold.specs.Thinning.{thinned_ops, unread_of}
use Rattle.vx_fold.proofs.thin.thinned_ops.Given as goal

abbrev pub invariant-loop-op : goal.invariant-loop-op
invariant-loop-op l = l.thinned ++ thinned_ops (unread_of l.needed) (drop l.op-index l.ops) ≡ thinned_ops (unread_of l.needed) l.ops
