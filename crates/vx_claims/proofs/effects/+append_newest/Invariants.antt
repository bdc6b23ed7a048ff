use Rattle.std.proofs.Common.{length}
use Rattle.vx_claims.proofs.effects.+append_newest.Given as goal

abbrev pub decreases-append_newest : goal.decreases-append_newest
decreases-append_newest l = length l.facts.now
