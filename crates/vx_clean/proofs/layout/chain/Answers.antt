use Rattle.vx_clean.proofs.Filled.{pushed_some}
use Rattle.vx_clean.proofs.layout.chain.Goals as goal

pub returns-then-block : goal.returns-then-block
returns-then-block c = λ _. pushed_some _ _ _ c.in_ok-push.ensures.ok

pub loop-turn-preserved : goal.loop-turn-preserved
loop-turn-preserved c = λ _. pushed_some _ _ _ c.in_ok-push.ensures.ok
