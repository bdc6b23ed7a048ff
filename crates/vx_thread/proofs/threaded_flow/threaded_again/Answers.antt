use Rattle.std.proofs.Common.{List, Option, IfSome, subst}
use Rattle.vx_flow.specs.declared.graph.Graph.{Graph}
use Rattle.vx_thread.specs.Threading.{Steps, none}
use Rattle.vx_thread.proofs.threaded_flow.threaded_again.Goals as goal

pub threaded_on-requires : goal.threaded_on-requires
threaded_on-requires c =
    let after : (old : List Graph) → Steps old c.args.graphs.now → Steps old c.in-Some.first =
    subst (λ (found : Option (List Graph)). IfSome found (λ threaded. (old : List Graph) → Steps old c.args.graphs.now → Steps old threaded)) c.in-Some.is c.in_ok-first.ensures in
    after c.args.graphs.now none
