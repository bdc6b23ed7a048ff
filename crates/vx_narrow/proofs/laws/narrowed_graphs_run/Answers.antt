use Rattle.vx_narrow.proofs.Staged.{narrowed_graphs_run}
use Rattle.vx_narrow.proofs.laws.narrowed_graphs_run.Goals as goal

pub returns : goal.returns
returns c = narrowed_graphs_run
