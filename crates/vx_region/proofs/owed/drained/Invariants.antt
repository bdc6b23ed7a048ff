-- the splits so far have their cycles, and the others are left
use Rattle.std.proofs.Common.{◌≡◌, ◌++◌, length}
use Rattle.vx_region.specs.Owed.{with_drains}
use Rattle.vx_region.proofs.owed.drained.Given as goal

abbrev pub invariant-loop-split : goal.invariant-loop-split
invariant-loop-split l = record {
  made : l.drained ≡ with_drains l.machine l.placed l.yielded;
  rest : l.yielded ++ l.split-iterator.rest.items ≡ l.fn.splits.items;
  left : length l.split-iterator.rest.items ≡ l.split-iterator.rest.len;
}
