use Rattle.std.proofs.Common.{◌≡◌, map, take}
use Rattle.vx_fold.specs.Folding.{folded_op, numbers_of}
use Rattle.vx_fold.proofs.fold.folded_ops.Given as goal

abbrev pub invariant-loop-op : goal.invariant-loop-op
invariant-loop-op l = l.folded ≡ map (folded_op (numbers_of l.numbers)) (take l.op-index l.ops)
