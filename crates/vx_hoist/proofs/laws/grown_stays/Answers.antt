use Rattle.vx_hoist.proofs.GrowFlow.{grown_stays}
use Rattle.vx_hoist.proofs.laws.grown_stays.Goals as goal

pub returns : goal.returns
returns c = grown_stays
