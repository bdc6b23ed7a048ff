use Rattle.std.proofs.Common.{sym, ◌∙◌}
use Rattle.vx_claims.proofs.Fronts.{equals_at}
use Rattle.vx_claims.proofs.known.past_equals.Goals as goal

pub returns-then-is_claimed : goal.returns-then-is_claimed
returns-then-is_claimed c = equals_at c.args.facts.now c.loop-fact.fact-index _ c.args.value c.args.code c.args.left c.args.right c.loop-fact-test.true (sym c.is_claimed.ensures ∙ c.if-is_claimed.true)
