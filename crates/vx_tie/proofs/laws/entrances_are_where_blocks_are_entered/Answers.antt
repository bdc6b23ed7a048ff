use Rattle.vx_tie.proofs.Spaced.{entrance_law}
use Rattle.vx_tie.proofs.laws.entrances_are_where_blocks_are_entered.Goals as goal

pub returns : goal.returns
returns c = entrance_law
