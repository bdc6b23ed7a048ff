use Rattle.std.proofs.Common.{◌∙◌, ap, length}
use Rattle.vx_clean.proofs.layout.mark_firsts.Goals as goal
use Rattle.vx_clean.proofs.layout.mark_firsts.Goals.{then-at-ne0+then-at-block, else-at-ne0}

pub loop-place-preserved : goal.loop-place-preserved
loop-place-preserved c = elim c.if-at-ne0.branch [
  | then-at-ne0+then-at-block w ↦ ap (λ z. length z.items) w.firsts-is ∙ w.put.ensures ∙ c.loop-place.invariant
  | else-at-ne0 w ↦ ap (λ z. length z.items) w.firsts-is ∙ c.loop-place.invariant
]
