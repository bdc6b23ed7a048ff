use Rattle.vx_lower.proofs.Whole.{lowering_holds}
use Rattle.vx_lower.proofs.laws.lowering_law.Goals as goal

pub returns : goal.returns
returns c = lowering_holds
