use Rattle.vx_select.proofs.laws.selected_once.Goals as goal
use Rattle.vx_select.proofs.Once.{selected_once}

pub returns : goal.returns
returns c = selected_once
