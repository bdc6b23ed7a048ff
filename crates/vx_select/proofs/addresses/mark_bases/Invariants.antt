use Rattle.std.proofs.Common.{take}
use Rattle.std.specs.List.{list_any}
use Rattle.vx_flow.specs.declared.graph.Array.{Array}
use Rattle.vx_flow.specs.Sound.{is_that}
use Rattle.vx_select.specs.Known.{Marks}
use Rattle.vx_select.proofs.addresses.mark_bases.Given as goal

abbrev pub invariant-loop-array : goal.invariant-loop-array
invariant-loop-array l = Marks (λ v. list_any (λ (array : Array). is_that v array.base) (take l.array-index l.arrays)) l.initial.marks.items l.marks.items
