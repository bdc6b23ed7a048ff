use Rattle.vx_clean.proofs.LaysFlow.{laid_stays}
use Rattle.vx_clean.proofs.laws.laid_flows_stay.Goals as goal

pub returns : goal.returns
returns c = laid_stays
