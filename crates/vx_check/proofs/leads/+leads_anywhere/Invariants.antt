use Rattle.std.proofs.Common.{length}
use Rattle.vx_check.proofs.leads.+leads_anywhere.Given as goal

abbrev pub decreases-leads_anywhere : goal.decreases-leads_anywhere
decreases-leads_anywhere l = length l.ops.now
