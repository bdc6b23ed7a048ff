use Rattle.std.proofs.Common.{◌≡◌, ◌+◌, ◌<◌, ℕ, List, sym, take, length, get_or, subst}
use Rattle.vx_flow.specs.declared.graph.Graph.{Graph}
use Rattle.vx_shape.specs.Flows.{Each, OrSame}
use Rattle.vx_shape.proofs.Pairs.{each_next}
use Rattle.vx_shape.proofs.passes.each_made.Goals as goal

pub loop-function-preserved : goal.loop-function-preserved
loop-function-preserved g c =
    let R : Graph → Graph → Type 0 = OrSame g.P.GraphPass.makes in
    let graphs : List Graph = c.args.graphs.now in
    let i : ℕ = c.loop-function.function in
    let old : Graph = c.index-graphs-function.result in
    let new : Graph = c.in_ok-made_or_same.field-0 in
    let l : i < length graphs = search in
    let e : old ≡ get_or graphs i old = search in
    let s = each_next R graphs c.loop-function.new i old new l e c.loop-function.invariant c.in_ok-made_or_same.ensures in
    subst (Each R (take (i + 1) graphs)) (sym c.in_ok-push.ensures.ok) s
