use Rattle.vx_hoist.proofs.GrowRuns.{grown_runs}
use Rattle.vx_hoist.proofs.laws.grown_runs.Goals as goal

pub returns : goal.returns
returns c = grown_runs
