use Rattle.std.proofs.Common.{take}
use Rattle.std.specs.List.{list_any}
use Rattle.vx_select.specs.Known.{Marks}
use Rattle.vx_select.specs.Selected.{makes_address}
use Rattle.vx_select.proofs.addresses.mark_ops.Given as goal

abbrev pub invariant-loop-op : goal.invariant-loop-op
invariant-loop-op l = Marks (λ v. list_any (makes_address l.arrays v) (take l.op-index l.ops)) l.initial.marks.items l.marks.items
