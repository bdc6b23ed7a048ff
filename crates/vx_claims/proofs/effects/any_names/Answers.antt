use Rattle.vx_claims.specs.Facts.{names}
use Rattle.vx_claims.proofs.Turns.{named_more, one_named}
use Rattle.vx_claims.proofs.effects.any_names.Goals as goal

pub loop-fact-preserved : goal.loop-fact-preserved
loop-fact-preserved c = named_more (names c.args.value) c.args.facts.now c.loop-fact.fact-index _ c.names.result c.loop-fact-test.true c.loop-fact.invariant c.names.ensures c.if-names.false

pub returns-then-names : goal.returns-then-names
returns-then-names c = one_named (names c.args.value) c.args.facts.now c.loop-fact.fact-index _ c.names.result c.loop-fact-test.true c.names.ensures c.if-names.true
