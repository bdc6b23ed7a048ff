use Rattle.vx_raise.proofs.Moves.{moved_paths}
use Rattle.vx_raise.proofs.laws.moved_paths.Goals as goal

pub returns : goal.returns
returns c = moved_paths
