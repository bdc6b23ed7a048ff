use Rattle.vx_narrow.proofs.Stays.{stays_flow}
use Rattle.vx_narrow.proofs.laws.flow_stays.Goals as goal

pub returns : goal.returns
returns c = stays_flow
