use Rattle.std.proofs.Common.{take}
use Rattle.vx_select.specs.Selected.{Selects}
use Rattle.vx_shape.specs.Flows.{Each}
use Rattle.vx_select.proofs.selection.selected_graphs.Given as goal

abbrev pub invariant-loop-graph : goal.invariant-loop-graph
invariant-loop-graph l = Each (Selects l.most) (take l.graph-index l.graphs) l.new
