use Rattle.std.proofs.Common.{take}
use Rattle.std.specs.List.{list_any}
use Rattle.vx_flow.specs.declared.graph.Block.{Block}
use Rattle.vx_select.specs.Known.{Marks}
use Rattle.vx_select.specs.Selected.{makes_address}
use Rattle.vx_select.proofs.addresses.mark_blocks.Given as goal

abbrev pub invariant-loop-block : goal.invariant-loop-block
invariant-loop-block l = Marks (λ v. list_any (λ (block : Block). list_any (makes_address l.arrays v) block.ops) (take l.block-index l.blocks)) l.initial.marks.items l.marks.items
