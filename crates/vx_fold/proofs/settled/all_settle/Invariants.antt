use Rattle.std.proofs.Common.{◌≡◌, take, true}
use Rattle.std.specs.List.{list_all}
use Rattle.vx_fold.specs.Folding.{numbers_of, settles}
use Rattle.vx_fold.proofs.settled.all_settle.Given as goal

abbrev pub invariant-loop-op : goal.invariant-loop-op
invariant-loop-op l = list_all (settles (numbers_of l.numbers)) (take l.op-index l.ops) ≡ true
