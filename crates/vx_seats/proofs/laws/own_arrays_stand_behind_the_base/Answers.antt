use Rattle.vx_target.proofs.Spots.{own_spots}
use Rattle.vx_seats.proofs.laws.own_arrays_stand_behind_the_base.Goals as goal

pub returns : goal.returns
returns c = own_spots
