use Rattle.std.proofs.Common.{◌≡◌, true, take}
use Rattle.std.specs.List.{list_all}
use Rattle.vx_inline.specs.Values.{makes_none}
use Rattle.vx_inline.proofs.bare.make_none.Given as goal

abbrev pub invariant-loop-op : goal.invariant-loop-op
invariant-loop-op l = list_all (makes_none l.arrays) (take l.op-index l.ops) ≡ true
