use Rattle.vx_layout.proofs.CodeBegins.{begins_with_code}
use Rattle.vx_region.proofs.BeginsOn.{begins_on}
use Rattle.vx_region.proofs.laws.graphs_begin_so.Goals as goal

pub returns : goal.returns
returns c = begins_on begins_with_code
