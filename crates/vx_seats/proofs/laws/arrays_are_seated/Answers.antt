use Rattle.vx_seats.proofs.SeatSteps.{arrays_law}
use Rattle.vx_seats.proofs.laws.arrays_are_seated.Goals as goal

pub returns : goal.returns
returns c = arrays_law
