use Rattle.std.proofs.Common.{◌≡◌, [], false, drop, length}
use Rattle.std.specs.List.{list_any}
use Rattle.vx_isa.specs.Machine.{memory_after, has_bad_address}
use Rattle.vx_sim.specs.Held.{word_of}
use Rattle.vx_sim.specs.Standing.{state_of}
use Rattle.vx_sim.proofs.effects.make_each_store.Given as goal

abbrev pub invariant-loop-op : goal.invariant-loop-op
invariant-loop-op l =
    let s = state_of l.fn.now [] in
    let todo = drop l.op-index l.ops in
    record {
      stores : memory_after s todo (word_of l.now.memory.items) ≡ memory_after s l.ops (word_of l.fn.now.memory.items);
      rest : l.now ≡ record l.fn.now { memory = l.now.memory };
      len : length l.now.memory.items ≡ length l.fn.now.memory.items;
      good : list_any (has_bad_address l.size s) todo ≡ false;
    }
