use Rattle.vx_claims.specs.Accesses.{is_told}
use Rattle.vx_claims.proofs.Turns.{passed_more, not_passed}
use Rattle.vx_claims.proofs.access.tell.Goals as goal

pub loop-claim-preserved : goal.loop-claim-preserved
loop-claim-preserved c = passed_more (is_told c.args.known.now) c.args.claims.now c.loop-claim.claim-index _ c.is_told_near.result c.loop-claim-test.true c.loop-claim.invariant c.is_told_near.ensures c.if-not-is_told_near.false

pub returns-then-not-is_told_near : goal.returns-then-not-is_told_near
returns-then-not-is_told_near c = not_passed (is_told c.args.known.now) c.args.claims.now c.loop-claim.claim-index _ c.is_told_near.result c.loop-claim-test.true c.is_told_near.ensures c.if-not-is_told_near.true
