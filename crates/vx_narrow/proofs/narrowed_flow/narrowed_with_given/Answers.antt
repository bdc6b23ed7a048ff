use Rattle.std.proofs.Common.{IfSome, List, Option, subst}
use Rattle.vx_flow.specs.declared.graph.Graph.{Graph}
use Rattle.vx_narrow.specs.Checking.{listed_given}
use Rattle.vx_narrow.specs.Narrowing.{NarrowedWith}
use Rattle.vx_narrow.proofs.narrowed_flow.narrowed_with_given.Goals as goal

pub with_sound_graphs-requires-clause-graphs : goal.with_sound_graphs-requires-clause-graphs
with_sound_graphs-requires-clause-graphs c =
    let given = listed_given c.args.given.now in (
      given,
      subst (λ (o : Option (List Graph)). IfSome o (λ made. NarrowedWith given 0 c.args.flow.now.functions made)) c.in-Some.is
          (subst (λ (graphs : List Graph). IfSome c.in_ok-functions.field-0 (λ made. NarrowedWith given 0 graphs made)) c.as_slice.ensures c.in_ok-functions.ensures),
    )
