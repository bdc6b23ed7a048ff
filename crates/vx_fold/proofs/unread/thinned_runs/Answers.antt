use Rattle.vx_fold.proofs.ThinRuns.{thinned_runs}
use Rattle.vx_fold.proofs.unread.thinned_runs.Goals as goal

pub returns : goal.returns
returns c = thinned_runs
