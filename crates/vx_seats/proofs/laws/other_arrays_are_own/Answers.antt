use Rattle.vx_target.proofs.Spots.{owned_law}
use Rattle.vx_seats.proofs.laws.other_arrays_are_own.Goals as goal

pub returns : goal.returns
returns c = owned_law
