use Rattle.vx_unroll.proofs.Unrolled.{unrolling_keeps}
use Rattle.vx_unroll.proofs.laws.unrolling_keeps.Goals as goal

-- src/laws.rt
pub returns : goal.returns
returns c = unrolling_keeps
