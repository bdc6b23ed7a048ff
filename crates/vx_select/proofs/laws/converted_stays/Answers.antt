use Rattle.vx_select.proofs.laws.converted_stays.Goals as goal
use Rattle.vx_select.proofs.Flows.{converted_stays}

pub returns : goal.returns
returns c = converted_stays
