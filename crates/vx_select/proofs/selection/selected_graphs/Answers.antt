use Rattle.std.proofs.Common.{◌≡◌, ◌+◌, ◌<◌, ℕ, List, sym, take, length, get_or, subst}
use Rattle.vx_flow.specs.declared.graph.Graph.{Graph}
use Rattle.vx_shape.specs.Flows.{Each}
use Rattle.vx_shape.proofs.Pairs.{each_next}
use Rattle.vx_select.specs.Selected.{Selects}
use Rattle.vx_select.proofs.selection.selected_graphs.Goals as goal

pub loop-graph-preserved : goal.loop-graph-preserved
loop-graph-preserved c =
    let graphs : List Graph = c.args.graphs.now in
    let i : ℕ = c.loop-graph.graph-index in
    let old : Graph = c.graph-item.result in
    let new : Graph = c.in_ok-selected_graph.field-0 in
    let l : i < length graphs = search in
    let e : old ≡ get_or graphs i old = search in
    subst (Each (Selects c.args.most) (take (i + 1) graphs)) (sym c.in_ok-push.ensures.ok) (each_next (Selects c.args.most) graphs c.loop-graph.new i old new l e c.loop-graph.invariant c.in_ok-selected_graph.ensures)
