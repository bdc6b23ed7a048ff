use Rattle.vx_select.proofs.laws.first_is_first.Goals as goal
use Rattle.vx_select.proofs.Searched.{first_is_first}

pub returns : goal.returns
returns c = first_is_first
