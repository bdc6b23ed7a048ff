use Rattle.std.proofs.Common.{length}
use Rattle.vx_check.proofs.rounds.+put_at_all.Given as goal

abbrev pub decreases-put_at_all : goal.decreases-put_at_all
decreases-put_at_all l = length l.places.now
