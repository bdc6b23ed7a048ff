use Rattle.vx_claims.proofs.Fronts.{pushed}
use Rattle.vx_claims.proofs.access.append_known.Goals as goal

pub loop-access-preserved : goal.loop-access-preserved
loop-access-preserved c = pushed c.args.list.now c.loop-access.list c.push.new.self c.args.known.now c.loop-access.access-index _ c.loop-access.invariant c.in_ok-push.ensures.ok c.loop-access-test.true
