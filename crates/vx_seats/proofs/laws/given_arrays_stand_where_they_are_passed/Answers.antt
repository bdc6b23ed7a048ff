use Rattle.vx_target.proofs.Spots.{given_spots}
use Rattle.vx_seats.proofs.laws.given_arrays_stand_where_they_are_passed.Goals as goal

pub returns : goal.returns
returns c = given_spots
