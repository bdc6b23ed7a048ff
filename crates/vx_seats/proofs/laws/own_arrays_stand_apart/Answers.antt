use Rattle.vx_target.proofs.Spots.{spots_apart}
use Rattle.vx_seats.proofs.laws.own_arrays_stand_apart.Goals as goal

pub returns : goal.returns
returns c = spots_apart
