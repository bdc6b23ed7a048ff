use Rattle.vx_raise.proofs.Moves.{raised_runs}
use Rattle.vx_raise.proofs.laws.raised_runs.Goals as goal

pub returns : goal.returns
returns c = raised_runs
