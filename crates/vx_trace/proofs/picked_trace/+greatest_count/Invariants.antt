use Rattle.std.proofs.Common.{length}
use Rattle.vx_trace.proofs.picked_trace.+greatest_count.Given as goal

-- proposed from what the function passes where it calls itself
abbrev pub decreases-greatest_count : goal.decreases-greatest_count
decreases-greatest_count l = length l.blocks.now
