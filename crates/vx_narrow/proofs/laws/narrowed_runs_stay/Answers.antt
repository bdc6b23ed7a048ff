use Rattle.vx_narrow.proofs.NarrowRuns.{narrowed_runs}
use Rattle.vx_narrow.proofs.laws.narrowed_runs_stay.Goals as goal

pub returns : goal.returns
returns c = narrowed_runs
