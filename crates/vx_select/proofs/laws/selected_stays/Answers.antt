use Rattle.vx_select.proofs.laws.selected_stays.Goals as goal
use Rattle.vx_select.proofs.Flows.{selected_stays}

pub returns : goal.returns
returns c = selected_stays
