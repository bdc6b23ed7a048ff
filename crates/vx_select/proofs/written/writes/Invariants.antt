use Rattle.std.proofs.Common.{◌≡◌, drop}
use Rattle.vx_select.specs.Values.{are_writing}
use Rattle.vx_select.proofs.written.writes.Given as goal

abbrev pub invariant-loop-op : goal.invariant-loop-op
invariant-loop-op l = are_writing l.ops l.value ≡ are_writing (drop l.op-index l.ops) l.value
