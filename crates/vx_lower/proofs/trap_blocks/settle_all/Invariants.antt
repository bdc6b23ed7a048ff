use Rattle.std.proofs.Common.{◌≡◌, ◌++◌, length, map}
use Rattle.vx_lower.specs.Finished.{settled}
use Rattle.vx_lower.proofs.trap_blocks.settle_all.Given as goal

abbrev pub invariant-loop-slot : goal.invariant-loop-slot
invariant-loop-slot l = record {
  made : l.blocks.items ≡ map (settled l.count l.fn.kinds) l.yielded;
  rest : l.yielded ++ l.slot-iterator.rest.items ≡ l.fn.slots.items;
  left : length l.slot-iterator.rest.items ≡ l.slot-iterator.rest.len;
}
