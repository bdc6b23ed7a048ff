use Rattle.vx_unroll.proofs.Asking.{unrolled_by_is_same}
use Rattle.vx_unroll.proofs.laws.unrolled_by_is_same.Goals as goal

-- src/laws.rt
pub returns : goal.returns
returns c = unrolled_by_is_same
