use Rattle.std.proofs.Common.{◌∙◌, ◌++◌, ◌∷◌, [], ◌+◌, ◌*◌, ap, sym, append_assoc}
use Rattle.vx_lower.specs.declared.seen.Seen.TheVariants.{Handed}
use Rattle.vx_lower.specs.Lowered.{handed_from}
use Rattle.vx_lower.proofs.Bodies.{handed_more}
use Rattle.vx_lower.proofs.lowering.add_handed.Goals as goal

pub loop-place-preserved : goal.loop-place-preserved
loop-place-preserved c =
    let base = c.args.first + 2 * c.loop-place.place in
    c.in_ok-push.ensures.items ∙ ap (λ z. z ++ Handed base (base + 1) ∷ []) c.loop-place.invariant ∙ append_assoc c.args.arrays.now.items (handed_from c.args.first c.loop-place.place) (Handed base (base + 1) ∷ []) ∙ ap (λ z. c.args.arrays.now.items ++ z) (sym (handed_more c.args.first c.loop-place.place))
