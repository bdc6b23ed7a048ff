use Rattle.std.proofs.Common.{length}
use Rattle.vx_carry.proofs.lookups.+landed.Given as goal

abbrev pub decreases-landed : goal.decreases-landed
decreases-landed l = length l.landings.now
