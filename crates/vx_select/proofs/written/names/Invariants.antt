use Rattle.std.proofs.Common.{◌≡◌, drop}
use Rattle.std.specs.List.{list_any}
use Rattle.vx_select.specs.Values.{names_it}
use Rattle.vx_select.proofs.written.names.Given as goal

abbrev pub invariant-loop-op : goal.invariant-loop-op
invariant-loop-op l = list_any (names_it l.value) l.ops ≡ list_any (names_it l.value) (drop l.op-index l.ops)
