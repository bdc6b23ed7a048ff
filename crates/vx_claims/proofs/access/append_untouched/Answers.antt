use Rattle.std.proofs.Common.{sym, ◌∙◌}
use Rattle.vx_claims.specs.Accesses.{untouched}
use Rattle.vx_claims.proofs.Turns.{kept_turn, passed_turn, untouched_kept, untouched_passed}
use Rattle.vx_claims.proofs.access.append_untouched.Goals as goal
use Rattle.vx_claims.proofs.access.append_untouched.Goals.{then-not-touches+in_ok-push, else-not-touches}

pub loop-access-preserved : goal.loop-access-preserved
loop-access-preserved c = elim c.if-not-touches.branch [
  | then-not-touches+in_ok-push w ↦ kept_turn (untouched c.args.arrays.now c.args.array) _ c.loop-access.list c.if-not-touches.list c.args.known.now c.loop-access.access-index _ c.loop-access-test.true c.loop-access.invariant (untouched_kept c.args.arrays.now c.args.array _ _ (sym c.touches.ensures ∙ w.if-not-touches.true)) (w.list-is ∙ w.in_ok-push.ensures.ok)
  | else-not-touches w ↦ passed_turn (untouched c.args.arrays.now c.args.array) _ c.loop-access.list c.if-not-touches.list c.args.known.now c.loop-access.access-index _ c.loop-access-test.true c.loop-access.invariant (untouched_passed c.args.arrays.now c.args.array _ _ (sym c.touches.ensures ∙ w.if-not-touches.false)) w.list-is
]
