use Rattle.std.proofs.Common.{sym, ◌∙◌}
use Rattle.vx_claims.specs.Facts.{without}
use Rattle.vx_claims.proofs.Turns.{kept_turn, passed_turn, without_kept, without_passed}
use Rattle.vx_claims.proofs.effects.append_without.Goals as goal
use Rattle.vx_claims.proofs.effects.append_without.Goals.{then-not-names+in_ok-push, else-not-names}

pub loop-fact-preserved : goal.loop-fact-preserved
loop-fact-preserved c = elim c.if-not-names.branch [
  | then-not-names+in_ok-push w ↦ kept_turn (without c.args.value) _ c.loop-fact.list c.if-not-names.list c.args.facts.now c.loop-fact.fact-index _ c.loop-fact-test.true c.loop-fact.invariant (without_kept c.args.value _ _ (sym c.names.ensures ∙ w.if-not-names.true)) (w.list-is ∙ w.in_ok-push.ensures.ok)
  | else-not-names w ↦ passed_turn (without c.args.value) _ c.loop-fact.list c.if-not-names.list c.args.facts.now c.loop-fact.fact-index _ c.loop-fact-test.true c.loop-fact.invariant (without_passed c.args.value _ _ (sym c.names.ensures ∙ w.if-not-names.false)) w.list-is
]
