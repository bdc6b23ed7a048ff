use Rattle.vx_select.proofs.laws.converted_shorter.Goals as goal
use Rattle.vx_select.proofs.Once.{converted_shorter}

pub returns : goal.returns
returns c = converted_shorter
