use Rattle.vx_raise.proofs.Moves.{moved_stays}
use Rattle.vx_raise.proofs.laws.moved_stays.Goals as goal

pub returns : goal.returns
returns c = moved_stays
