use Rattle.std.proofs.Common.{◌≡◌, ◌++◌, ◌∷◌, ◌∙◌, [], ap, length, length-append, arith}
use Rattle.vx_regs.specs.declared.map.Kept.TheVariants.{Nowhere}
use Rattle.vx_regs.specs.Spans.{kept_at}
use Rattle.vx_regs.proofs.Allocated.{nowhere_more}
use Rattle.vx_regs.proofs.allocation.kept_nowhere.Goals as goal

pub values-preserved : goal.values-preserved
values-preserved c =
    let kept = c.values.kept.items in
    let many = c.values.invariant.0 in
    let pushed : c.push.new.self.items ≡ kept ++ Nowhere ∷ [] = c.in_ok-push.ensures.items in
    let one = ap length pushed in
    let two = length-append kept (Nowhere ∷ []) in
    (omega arith, λ v. ap (λ z. kept_at z v) pushed ∙ nowhere_more kept v (c.values.invariant.1 v))
