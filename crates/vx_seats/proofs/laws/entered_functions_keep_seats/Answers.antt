use Rattle.vx_seats.proofs.SeatSteps.{entered_law}
use Rattle.vx_seats.proofs.laws.entered_functions_keep_seats.Goals as goal

pub returns : goal.returns
returns c = entered_law
