use Rattle.vx_select.proofs.laws.padded_stays.Goals as goal
use Rattle.vx_select.proofs.PaddedFlow.{padded_stays}

pub returns : goal.returns
returns c = padded_stays
