use Rattle.vx_tie.proofs.Entry.{entry_law}
use Rattle.vx_tie.proofs.laws.starts_of_functions_are_carried.Goals as goal

pub returns : goal.returns
returns c = entry_law
