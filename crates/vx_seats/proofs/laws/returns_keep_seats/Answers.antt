use Rattle.vx_seats.proofs.SeatSteps.{returned_law}
use Rattle.vx_seats.proofs.laws.returns_keep_seats.Goals as goal

pub returns : goal.returns
returns c = returned_law
