use Rattle.std.proofs.Common.{◌≡◌, ◌+◌, ◌∷◌, [], length, ap, sym, subst, arith, ◌∙◌}
use Rattle.std.proofs.lemmas.List.{length-append}
use Rattle.vx_dep.specs.Heights.{AreZero}
use Rattle.vx_dep.proofs.Rising.{one_more_zero}
use Rattle.vx_dep.proofs.heights.zeros.Goals as goal

pub loop-zeros-preserved : goal.loop-zeros-preserved
loop-zeros-preserved c =
    let zeros = c.loop-zeros.zeros.items in
    let next = c.push.new.self.items in
    let more = c.in_ok-push.ensures.items in
    let longer : length next ≡ length zeros + 1 = ap length more ∙ length-append zeros (0 ∷ []) in
    let test = c.loop-zeros-test.true in
    let here = c.len.ensures in
    (subst (λ n. AreZero n next) (sym longer) (one_more_zero (length zeros) zeros next c.loop-zeros.invariant.0 more), omega (arith, longer, test, here))
