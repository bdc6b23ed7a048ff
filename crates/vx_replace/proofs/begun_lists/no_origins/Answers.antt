use Rattle.std.proofs.Common.{◌∷◌, ◌++◌, ◌∙◌, [], None, Option, List, ap}
use Rattle.std.proofs.lemmas.List.{replicate_more}
use Rattle.vx_mixed.specs.declared.region.Origin.{Origin}
use Rattle.vx_replace.proofs.begun_lists.no_origins.Goals as goal

pub loop-block-preserved : goal.loop-block-preserved
loop-block-preserved c = c.in_ok-push.ensures.ok ∙ ap (λ (z : List (Option Origin)). z ++ None ∷ []) c.loop-block.invariant ∙ replicate_more c.loop-block._block None
