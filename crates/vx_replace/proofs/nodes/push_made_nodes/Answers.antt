use Rattle.std.proofs.Common.{◌∙◌, ap}
use Rattle.vx_flow.specs.declared.graph.Exit.TheVariants.{Goto}
use Rattle.vx_mixed.specs.declared.region.Node.TheVariants.{Unused}
use Rattle.vx_mixed.specs.Next.{made_node}
use Rattle.vx_replace.proofs.Pushed.{mapped_behind}
use Rattle.vx_replace.proofs.nodes.push_made_nodes.Goals as goal

pub loop-block-preserved : goal.loop-block-preserved
loop-block-preserved c =
    let made = c.block-item.result in
    mapped_behind made_node _ c.args.made.now c.loop-block.block-index made _ _ _ c.loop-block-test.true c.loop-block.invariant c.in_ok-push.ensures.ok
    (ap (λ ops. Unused (record { ops = ops; exit = Goto made.edge.to })) (c.in_ok-ops.ensures ∙ c.as_slice.ensures) ∙ ap made_node c.block-item.is)
