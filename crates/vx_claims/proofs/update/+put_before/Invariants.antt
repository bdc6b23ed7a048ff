use Rattle.std.proofs.Common.{length}
use Rattle.vx_claims.proofs.update.+put_before.Given as goal

abbrev pub decreases-put_before : goal.decreases-put_before
decreases-put_before l = length l.said.now
