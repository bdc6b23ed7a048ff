use Rattle.std.specs.Prelude.{length}
use Rattle.vx_slots.proofs.transfers.+latest.Given as goal

abbrev pub decreases-latest : goal.decreases-latest
decreases-latest l = length l.ops.now
