use Rattle.std.proofs.Common.{◌≡◌, drop}
use Rattle.std.specs.List.{list_all}
use Rattle.vx_select.specs.Selected.{is_simple}
use Rattle.vx_select.proofs.search.are_simple.Given as goal

abbrev pub invariant-loop-op : goal.invariant-loop-op
invariant-loop-op l = list_all (is_simple l.banks) l.ops ≡ list_all (is_simple l.banks) (drop l.op-index l.ops)
