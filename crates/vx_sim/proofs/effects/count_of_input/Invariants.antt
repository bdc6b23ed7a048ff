-- those so far are counted
use Rattle.std.proofs.Common.{◌≡◌, ◌≤◌, take, count_by}
use Rattle.vx_isa.specs.Machine.{takes_input}
use Rattle.vx_sim.proofs.effects.count_of_input.Given as goal

abbrev pub invariant-loop-op : goal.invariant-loop-op
invariant-loop-op l = (l.count ≡ count_by takes_input (take l.op-index l.ops)) × (l.count ≤ l.op-index)
