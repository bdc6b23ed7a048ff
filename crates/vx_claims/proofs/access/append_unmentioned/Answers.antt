use Rattle.std.proofs.Common.{sym, ◌∙◌}
use Rattle.vx_claims.specs.Accesses.{unmentioned}
use Rattle.vx_claims.proofs.Turns.{kept_turn, passed_turn, unmentioned_kept, unmentioned_passed}
use Rattle.vx_claims.proofs.access.append_unmentioned.Goals as goal
use Rattle.vx_claims.proofs.access.append_unmentioned.Goals.{then-not-mentions+in_ok-push, else-not-mentions}

pub loop-access-preserved : goal.loop-access-preserved
loop-access-preserved c = elim c.if-not-mentions.branch [
  | then-not-mentions+in_ok-push w ↦ kept_turn (unmentioned c.args.value) _ c.loop-access.list c.if-not-mentions.list c.args.known.now c.loop-access.access-index _ c.loop-access-test.true c.loop-access.invariant (unmentioned_kept c.args.value _ _ (sym c.mentions.ensures ∙ w.if-not-mentions.true)) (w.list-is ∙ w.in_ok-push.ensures.ok)
  | else-not-mentions w ↦ passed_turn (unmentioned c.args.value) _ c.loop-access.list c.if-not-mentions.list c.args.known.now c.loop-access.access-index _ c.loop-access-test.true c.loop-access.invariant (unmentioned_passed c.args.value _ _ (sym c.mentions.ensures ∙ w.if-not-mentions.false)) w.list-is
]
