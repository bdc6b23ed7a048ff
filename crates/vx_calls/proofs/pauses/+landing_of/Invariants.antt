use Rattle.std.specs.Prelude.{length}
use Rattle.vx_calls.proofs.pauses.+landing_of.Given as goal

abbrev pub decreases-landing_of : goal.decreases-landing_of
decreases-landing_of l = length l.ops.now
