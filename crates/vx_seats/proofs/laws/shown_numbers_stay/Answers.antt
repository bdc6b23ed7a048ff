use Rattle.vx_seats.proofs.Showing.{shown_law}
use Rattle.vx_seats.proofs.laws.shown_numbers_stay.Goals as goal

pub returns : goal.returns
returns c = shown_law
