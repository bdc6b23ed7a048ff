use Rattle.vx_tie.proofs.Spaced.{spaced_law}
use Rattle.vx_tie.proofs.laws.layouts_are_spaced.Goals as goal

pub returns : goal.returns
returns c = spaced_law
