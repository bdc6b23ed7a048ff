use Rattle.std.proofs.Common.{◌∙◌}
use Rattle.std.proofs.lemmas.Result.{IfOk-weaker}
use Rattle.vx_replace.proofs.OuterEdges.{outer_are}
use Rattle.vx_replace.proofs.edges.outer_edges.Goals as goal

pub returns : goal.returns
returns c =
    IfOk-weaker c.edges_beside.result _ _ (λ outer same. outer_are c.args.nodes c.args.blocks.now c.args.edges.now outer c.as_slice.result.now c.requires.once c.requires.there (c.as_slice.ensures.value ∙ c.in_ok-before.ensures) same)
    c.edges_beside.ensures
