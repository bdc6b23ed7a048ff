use Rattle.vx_raise.proofs.Moves.{raised_stays}
use Rattle.vx_raise.proofs.laws.raised_stays.Goals as goal

pub returns : goal.returns
returns c = raised_stays
