use Rattle.vx_narrow.proofs.Staged.{narrowed_stays}
use Rattle.vx_narrow.proofs.laws.narrowed_graphs_stay.Goals as goal

pub returns : goal.returns
returns c = narrowed_stays
