use Rattle.std.proofs.Common.{length}
use Rattle.vx_sim.proofs.leads.+lead_of.Given as goal

abbrev pub decreases-lead_of : goal.decreases-lead_of
decreases-lead_of l = length l.ops.now
