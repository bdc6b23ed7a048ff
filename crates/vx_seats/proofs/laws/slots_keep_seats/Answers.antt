use Rattle.vx_seats.proofs.SeatSteps.{slot_law}
use Rattle.vx_seats.proofs.laws.slots_keep_seats.Goals as goal

pub returns : goal.returns
returns c = slot_law
