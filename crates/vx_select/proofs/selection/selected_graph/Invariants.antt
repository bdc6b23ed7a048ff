use Rattle.std.proofs.Common.{length}
use Rattle.vx_flow.specs.declared.graph.Graph.{Graph}
use Rattle.vx_select.specs.Selected.{Selects}
use Rattle.vx_select.proofs.selection.selected_graph.Given as goal

abbrev pub invariant-conversions : goal.invariant-conversions
invariant-conversions l = (k : Graph) → Selects l.most l.current k → Selects l.most l.graph k

abbrev pub decreases-conversions : goal.decreases-conversions
decreases-conversions l = length l.current.blocks
