use Rattle.vx_layout.proofs.laws.graphs_keep_their_code.Goals as goal
use Rattle.vx_layout.proofs.CodeBegins.{begins_with_code}
use Rattle.vx_layout.proofs.CodeStays.{code_stays}

pub returns : goal.returns
returns c = record { begins = begins_with_code; stays = code_stays }
