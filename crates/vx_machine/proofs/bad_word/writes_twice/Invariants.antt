use Rattle.std.proofs.Common.{◌≡◌, drop}
use Rattle.std.specs.List.{AllByRecursion}
use Rattle.vx_isa.specs.Fits.{destinations, is_twice}
use Rattle.vx_machine.specs.Marks.{HasMark, is_marked_or_twice}
use Rattle.vx_machine.proofs.bad_word.writes_twice.Given as goal

abbrev pub invariant-loop-op : goal.invariant-loop-op
invariant-loop-op l = record {
  rest : is_twice (destinations l.ops) ≡ is_marked_or_twice l.marks (destinations (drop l.op-index l.ops));
  marked : AllByRecursion HasMark (destinations (drop l.op-index l.ops));
}
