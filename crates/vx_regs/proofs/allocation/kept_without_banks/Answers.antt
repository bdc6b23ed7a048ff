use Rattle.std.proofs.Common.{◌≡◌, ◌++◌, ◌∷◌, [], None, List, get_or, sym, ap, ◌∙◌}
use Rattle.std.proofs.lemmas.List.{map_more}
use Rattle.vx_regs.specs.declared.map.Kept.{Kept}
use Rattle.vx_regs.specs.Filed.{first_register}
use Rattle.vx_regs.proofs.allocation.kept_without_banks.Goals.{in-None, in-Some}
use Rattle.vx_regs.proofs.allocation.kept_without_banks.Goals as goal

-- one value more
pub loop-hull-preserved : goal.loop-hull-preserved
loop-hull-preserved c =
    let hulls = c.args.hulls.now in
    let i = c.loop-hull.hull-index in
    let kept = c.loop-hull.kept.items in
    let here : c.match-hull.push ≡ first_register (get_or hulls i None) = elim c.match-hull.branch [ in-None w ↦ w.push-is ∙ ap first_register (sym w.in-None.is) | in-Some w ↦ w.push-is ∙ ap first_register (sym w.in-Some.is) ] in
    c.in_ok-push.ensures.items
    ∙ ap (λ (x : Kept). kept ++ x ∷ []) here
    ∙ ap (λ (z : List Kept). z ++ first_register (get_or hulls i None) ∷ []) c.loop-hull.invariant
    ∙ sym (map_more first_register hulls i None c.loop-hull-test.true)
