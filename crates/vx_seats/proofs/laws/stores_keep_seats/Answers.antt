use Rattle.vx_seats.proofs.SeatSteps.{store_law}
use Rattle.vx_seats.proofs.laws.stores_keep_seats.Goals as goal

pub returns : goal.returns
returns c = store_law
