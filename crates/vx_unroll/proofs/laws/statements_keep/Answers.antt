use Rattle.vx_unroll.proofs.Unrolled.{statements_keep}
use Rattle.vx_unroll.proofs.laws.statements_keep.Goals as goal

-- src/laws.rt
pub returns : goal.returns
returns c = statements_keep
