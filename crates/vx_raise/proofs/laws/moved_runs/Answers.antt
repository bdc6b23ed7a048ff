use Rattle.vx_raise.proofs.Moves.{moved_runs}
use Rattle.vx_raise.proofs.laws.moved_runs.Goals as goal

pub returns : goal.returns
returns c = moved_runs
