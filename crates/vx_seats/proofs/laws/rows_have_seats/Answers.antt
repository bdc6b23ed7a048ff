use Rattle.vx_seats.proofs.SeatSteps.{table_law}
use Rattle.vx_seats.proofs.laws.rows_have_seats.Goals as goal

pub returns : goal.returns
returns c = table_law
