use Rattle.vx_seats.proofs.Showing.{passed_law}
use Rattle.vx_seats.proofs.laws.bases_are_passed.Goals as goal

pub returns : goal.returns
returns c = passed_law
