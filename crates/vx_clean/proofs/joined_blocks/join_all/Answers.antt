use Rattle.std.proofs.Common.{◌∙◌, ap, length}
use Rattle.vx_clean.proofs.joined_blocks.join_all.Goals as goal
use Rattle.vx_clean.proofs.joined_blocks.join_all.Goals.{then-from-block+then-not-is_trap_at, else-from-block}

pub loop-place-preserved : goal.loop-place-preserved
loop-place-preserved c = elim c.if-from-block.branch [
  | then-from-block+then-not-is_trap_at w ↦ ap (λ z. length z.items) w.after-is ∙ w.put.ensures ∙ c.loop-place.invariant
  | else-from-block w ↦ ap (λ z. length z.items) w.after-is ∙ c.loop-place.invariant
]
