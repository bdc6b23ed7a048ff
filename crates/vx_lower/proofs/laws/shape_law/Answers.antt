use Rattle.vx_lower.proofs.Shaping.{shape}
use Rattle.vx_lower.proofs.laws.shape_law.Goals as goal

pub returns : goal.returns
returns c = shape
