-- no address so far is bad
use Rattle.std.proofs.Common.{◌≡◌, [], false, take}
use Rattle.std.specs.List.{list_any}
use Rattle.vx_isa.specs.Machine.{has_bad_address}
use Rattle.vx_sim.specs.Standing.{state_of}
use Rattle.vx_sim.proofs.stuck.has_bad_addresses.Given as goal

abbrev pub invariant-loop-op : goal.invariant-loop-op
invariant-loop-op l = list_any (has_bad_address l.size (state_of l.now [])) (take l.op-index l.ops) ≡ false
