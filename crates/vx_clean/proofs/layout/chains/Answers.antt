use Rattle.std.proofs.Common.{◌<◌, ◌∙◌, ap, arith, length, subst, sym}
use Rattle.vx_clean.specs.Chains.{AreFilled}
use Rattle.vx_clean.proofs.Filled.{filled_more}
use Rattle.vx_clean.proofs.layout.chains.Goals as goal
use Rattle.vx_clean.proofs.layout.chains.Goals.{then-first+in_ok-chain+in_ok-push, else-first}

pub loop-first-preserved : goal.loop-first-preserved
loop-first-preserved c =
    let some : 0 < length c.args.after.now = omega (arith, c.loop-first-test.true, c.requires) in
    elim c.if-first.branch [
      | then-first+in_ok-chain+in_ok-push w ↦ record {
        numbers = ap (λ z. length z.items) w.to-is ∙ w.move_all.ensures ∙ c.loop-first.invariant.numbers;
        filled = subst AreFilled (sym (ap (λ z. z.items) w.chains-is ∙ w.in_ok-push.ensures.items)) (filled_more _ _ c.loop-first.invariant.filled (w.in_ok-chain.ensures some));
      }
      | else-first w ↦ record {
        numbers = ap (λ z. length z.items) w.to-is ∙ c.loop-first.invariant.numbers;
        filled = subst (λ z. AreFilled z.items) (sym w.chains-is) c.loop-first.invariant.filled;
      }
    ]
