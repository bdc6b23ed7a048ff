use Rattle.vx_claims.specs.Claims.{says_never}
use Rattle.vx_claims.proofs.Turns.{named_more, one_named}
use Rattle.vx_claims.proofs.known.is_never.Goals as goal

pub loop-fact-preserved : goal.loop-fact-preserved
loop-fact-preserved c = named_more says_never c.args.facts.now c.loop-fact.fact-index _ c.says_never.result c.loop-fact-test.true c.loop-fact.invariant c.says_never.ensures c.if-says_never.false

pub returns-then-says_never : goal.returns-then-says_never
returns-then-says_never c = one_named says_never c.args.facts.now c.loop-fact.fact-index _ c.says_never.result c.loop-fact-test.true c.says_never.ensures c.if-says_never.true
