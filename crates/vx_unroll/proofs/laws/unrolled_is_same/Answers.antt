use Rattle.vx_unroll.proofs.Unrolled.{unrolled_is_same}
use Rattle.vx_unroll.proofs.laws.unrolled_is_same.Goals as goal

-- src/laws.rt
pub returns : goal.returns
returns c = unrolled_is_same
