use Rattle.vx_claims.proofs.Turns.{learned_turn}
use Rattle.vx_claims.proofs.effects.append_learned.Goals as goal

pub loop-fact-preserved : goal.loop-fact-preserved
loop-fact-preserved c = learned_turn c.args.facts.now _ c.loop-fact.list c.append_one.new.list c.args.answer c.args.test c.loop-fact.fact-index _ c.loop-fact-test.true c.loop-fact.invariant c.in_ok-append_one.ensures
