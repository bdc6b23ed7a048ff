use Rattle.std.proofs.Common.{length}
use Rattle.vx_claims.proofs.update.+has_more.Given as goal

abbrev pub decreases-has_more : goal.decreases-has_more
decreases-has_more l = length l.facts.now
