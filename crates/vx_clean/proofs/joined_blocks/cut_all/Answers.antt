use Rattle.std.proofs.Common.{◌∙◌, ap, length}
use Rattle.vx_clean.proofs.joined_blocks.cut_all.Goals as goal
use Rattle.vx_clean.proofs.joined_blocks.cut_all.Goals.{then-at-block, else-at-block}

pub loop-place-preserved : goal.loop-place-preserved
loop-place-preserved c = elim c.if-at-block.branch [
  | then-at-block w ↦ ap (λ z. length z.items) w.after-is ∙ w.cut.ensures ∙ c.loop-place.invariant
  | else-at-block w ↦ ap (λ z. length z.items) w.after-is ∙ c.loop-place.invariant
]
