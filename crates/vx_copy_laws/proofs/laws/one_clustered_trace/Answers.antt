use Rattle.vx_copy_laws.proofs.OneTrace.{one_law}
use Rattle.vx_copy_laws.proofs.laws.one_clustered_trace.Goals as goal

pub returns : goal.returns
returns c = one_law
