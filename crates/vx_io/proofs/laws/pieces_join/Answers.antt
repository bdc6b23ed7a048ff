use Rattle.vx_io.proofs.OutsideLaws.{pieces_join}
use Rattle.vx_io.proofs.laws.pieces_join.Goals as goal

pub returns : goal.returns
returns c = pieces_join
