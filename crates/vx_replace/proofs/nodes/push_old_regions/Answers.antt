use Rattle.std.proofs.Common.{◌<◌, ◌∙◌, List, get_or, length, ap, subst}
use Rattle.vx_mixed.specs.declared.region.Region.{Region}
use Rattle.vx_mixed.specs.Next.{new_end, renamed_region}
use Rattle.vx_replace.proofs.Pushed.{mapped_behind}
use Rattle.vx_replace.proofs.nodes.push_old_regions.Goals as goal

pub loop-region-preserved : goal.loop-region-preserved
loop-region-preserved c =
    let i = c.loop-region.region-index in
    let region = c.region-item.result in
    let f = renamed_region (new_end c.args.graph.now c.args.replacement.now.made) in
    mapped_behind f _ c.args.graph.now.regions i region _ _ _ (subst (λ (l : List Region). i < length l) c.as_slice-region-items.ensures c.loop-region-test.true) c.loop-region.invariant c.in_ok-push.ensures.ok
    (c.in_ok-after.ensures ∙ ap f (c.region-item.is ∙ ap (λ l. get_or l i region) c.as_slice-region-items.ensures))
