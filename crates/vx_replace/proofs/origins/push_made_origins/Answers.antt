use Rattle.std.proofs.Common.{◌∙◌, Some, ap}
use Rattle.vx_mixed.specs.declared.region.Origin.{Origin}
use Rattle.vx_mixed.specs.Next.{made_origin}
use Rattle.vx_replace.proofs.Pushed.{mapped_behind}
use Rattle.vx_replace.proofs.origins.push_made_origins.Goals as goal

pub loop-block-preserved : goal.loop-block-preserved
loop-block-preserved c =
    let made = c.block-item.result in
    mapped_behind (made_origin c.args.ops.now) _ c.args.made.now c.loop-block.block-index made _ _ _ c.loop-block-test.true c.loop-block.invariant c.in_ok-push.ensures.ok
    (ap (λ clusters. let origin : Origin = record { edge = made.edge; leaves = c.is_split_edge.result; clusters = clusters } in Some origin) (c.in_ok-clusters.ensures ∙ c.as_slice.ensures)
    ∙ ap (λ leaves. let origin : Origin = record { edge = made.edge; leaves = leaves; clusters = made.clusters } in Some origin) c.is_split_edge.ensures
    ∙ ap (made_origin c.args.ops.now) c.block-item.is)
