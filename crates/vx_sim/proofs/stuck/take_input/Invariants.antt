-- none so far takes a number of the input
use Rattle.std.proofs.Common.{◌≡◌, false, take}
use Rattle.std.specs.List.{list_any}
use Rattle.vx_isa.specs.Machine.{takes_input}
use Rattle.vx_sim.proofs.stuck.take_input.Given as goal

abbrev pub invariant-loop-op : goal.invariant-loop-op
invariant-loop-op l = list_any takes_input (take l.op-index l.ops) ≡ false
