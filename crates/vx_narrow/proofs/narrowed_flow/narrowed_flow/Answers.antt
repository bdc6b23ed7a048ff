use Rattle.std.proofs.Common.{IfSome, Option, subst}
use Rattle.vx_flow.specs.declared.graph.Flow.{Flow}
use Rattle.vx_shape.specs.Flows.{FlowStays}
use Rattle.vx_narrow.proofs.narrowed_flow.narrowed_flow.Goals as goal

pub returns-in-Some-clause-flow : goal.returns-in-Some-clause-flow
returns-in-Some-clause-flow c = subst (λ (o : Option Flow). IfSome o (λ narrowed. FlowStays c.args.flow.now narrowed)) c.in-Some.is c.in_ok-narrowed.ensures.flow
