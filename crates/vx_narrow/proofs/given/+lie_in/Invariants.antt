use Rattle.std.proofs.Common.{length}
use Rattle.vx_narrow.proofs.given.+lie_in.Given as goal

abbrev pub decreases-lie_in : goal.decreases-lie_in
decreases-lie_in l = length l.parameters.now
