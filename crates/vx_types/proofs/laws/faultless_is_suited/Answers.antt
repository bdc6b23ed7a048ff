use Rattle.vx_types.proofs.SuitsProgram.{suited}
use Rattle.vx_types.proofs.laws.faultless_is_suited.Goals as goal

pub returns : goal.returns
returns c = suited
