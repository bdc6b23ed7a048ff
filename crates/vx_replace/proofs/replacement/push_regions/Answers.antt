use Rattle.std.proofs.Common.{◌∷◌, ◌++◌, ◌∙◌, [], map, ap}
use Rattle.vx_mixed.specs.Next.{new_end, renamed_region}
use Rattle.vx_replace.proofs.replacement.push_regions.Goals as goal

pub returns : goal.returns
returns c =
    let old = map (renamed_region (new_end c.args.graph.now c.args.replacement.now.made)) c.args.graph.now.regions in
    c.in_ok-push.ensures.ok
    ∙ ap (λ l. l ++ c.in_ok-region.region ∷ []) (c.in_ok-push_old_regions.ensures ∙ ap (λ l. l ++ old) c.requires.none)
    ∙ ap (λ region. old ++ region ∷ []) c.in_ok-region.ensures
