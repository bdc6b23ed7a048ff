use Rattle.vx_tie.proofs.Start.{start_law}
use Rattle.vx_tie.proofs.laws.starts_are_tied.Goals as goal

pub returns : goal.returns
returns c = start_law
