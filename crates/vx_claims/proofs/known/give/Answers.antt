use Rattle.vx_claims.specs.Claims.{gives}
use Rattle.vx_claims.proofs.Turns.{passed_more, not_passed}
use Rattle.vx_claims.proofs.known.give.Goals as goal

pub loop-claim-preserved : goal.loop-claim-preserved
loop-claim-preserved c = passed_more (gives c.args.facts.now) c.args.claims.now c.loop-claim.claim-index _ c.gives.result c.loop-claim-test.true c.loop-claim.invariant c.gives.ensures c.if-not-gives.false

pub returns-then-not-gives : goal.returns-then-not-gives
returns-then-not-gives c = not_passed (gives c.args.facts.now) c.args.claims.now c.loop-claim.claim-index _ c.gives.result c.loop-claim-test.true c.gives.ensures c.if-not-gives.true
