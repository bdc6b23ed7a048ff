use Rattle.vx_clean.proofs.Stays.{stays_by_graphs}
use Rattle.vx_clean.proofs.laws.stays_by_graphs.Goals as goal

pub returns : goal.returns
returns c = stays_by_graphs
