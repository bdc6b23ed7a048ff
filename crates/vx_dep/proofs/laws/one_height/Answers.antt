use Rattle.vx_dep.proofs.Unique.{one_height}
use Rattle.vx_dep.proofs.laws.one_height.Goals as goal

-- src/laws.rt:12:1
pub returns : goal.returns
returns c = one_height
