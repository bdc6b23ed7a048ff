use Rattle.std.proofs.Common.{List, IfSome, subst}
use Rattle.std.proofs.lemmas.Result.{IfOk-weaker}
use Rattle.vx_flow.specs.declared.graph.Graph.{Graph}
use Rattle.vx_narrow.specs.Narrowing.{GraphsNarrowed}
use Rattle.vx_thread.proofs.ThreadFlow.{step_found}
use Rattle.vx_thread.proofs.threaded_flow.threaded_once.Goals as goal

pub returns : goal.returns
returns c =
    IfOk-weaker c.narrowed_functions-narrowed.result _ _
    (λ found h. step_found c.args.graphs.now c.in_ok-between.between found c.in_ok-between.ensures
    (subst (λ (gs : List Graph). IfSome found (λ made. GraphsNarrowed gs made)) c.as_slice.ensures h)) c.narrowed_functions-narrowed.ensures
