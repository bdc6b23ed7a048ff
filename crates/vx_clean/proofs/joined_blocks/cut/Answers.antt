use Rattle.std.proofs.Common.{◌∙◌, ap, length}
use Rattle.vx_clean.proofs.joined_blocks.cut.Goals as goal
use Rattle.vx_clean.proofs.joined_blocks.cut.Goals.{then-size-gt-MOST_OPS, else-size-gt-MOST_OPS}

pub cutting-preserved : goal.cutting-preserved
cutting-preserved c = elim c.if-size-gt-MOST_OPS.branch [
  | then-size-gt-MOST_OPS w ↦ ap (λ z. length z.items) w.after-is ∙ w.put.ensures ∙ c.cutting.invariant
  | else-size-gt-MOST_OPS w ↦ ap (λ z. length z.items) w.after-is ∙ c.cutting.invariant
]
