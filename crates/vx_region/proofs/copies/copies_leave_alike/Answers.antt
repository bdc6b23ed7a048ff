use Rattle.vx_region.proofs.Hops.{clustered_law}
use Rattle.vx_region.proofs.copies.copies_leave_alike.Goals as goal

pub returns : goal.returns
returns c = clustered_law
