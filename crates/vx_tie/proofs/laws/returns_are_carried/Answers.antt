use Rattle.vx_tie.proofs.Returning.{return_law}
use Rattle.vx_tie.proofs.laws.returns_are_carried.Goals as goal

pub returns : goal.returns
returns c = return_law
