use Rattle.vx_fold.proofs.FoldRuns.{folded_runs}
use Rattle.vx_fold.proofs.laws.folded_runs.Goals as goal

pub returns : goal.returns
returns c = folded_runs
