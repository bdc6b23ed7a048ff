use Rattle.vx_select.proofs.laws.selected_runs.Goals as goal
use Rattle.vx_select.proofs.Flows.{selected_runs}

pub returns : goal.returns
returns c = selected_runs
