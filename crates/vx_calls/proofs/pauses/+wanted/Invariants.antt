use Rattle.std.specs.Prelude.{length}
use Rattle.vx_calls.proofs.pauses.+wanted.Given as goal

abbrev pub decreases-wanted : goal.decreases-wanted
decreases-wanted l = length l.values.now
