use Rattle.vx_tie.proofs.Whole.{whole_law}
use Rattle.vx_tie.proofs.laws.programs_do_the_same.Goals as goal

pub returns : goal.returns
returns c = whole_law
