use Rattle.std.proofs.Common.{sym, take, ◌+◌, subst, IfSome}
use Rattle.vx_flow.specs.declared.graph.Graph.{Graph}
use Rattle.vx_narrow.specs.Checking.{listed_given}
use Rattle.vx_narrow.specs.Narrowing.{GraphNarrowed, NarrowedWith}
use Rattle.vx_narrow.proofs.Staged.{graphs_next}
use Rattle.vx_narrow.proofs.narrowed_flow.narrowed_graphs.Goals as goal

pub loop-function-preserved : goal.loop-function-preserved
loop-function-preserved c =
    let graphs = c.args.graphs.now in
    let given = listed_given c.args.given.now in
    let i = c.loop-function.function in
    let g : Graph = c.index-graphs-function.result in
    let h : Graph = c.in-Some.narrowed in
    let n : GraphNarrowed given i g h = subst (λ o. IfSome o (λ made. GraphNarrowed given i g made)) c.in-Some.is c.in_ok-narrowed.ensures in
    let s = graphs_next given graphs c.loop-function.made i g h c.loop-function-test.true c.index-graphs-function.is c.loop-function.invariant n in
    subst (NarrowedWith given 0 (take (i + 1) graphs)) (sym c.in_ok-push-in-Some.ensures.ok) s
