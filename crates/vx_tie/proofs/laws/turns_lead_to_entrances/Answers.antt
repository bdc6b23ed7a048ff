use Rattle.vx_tie.proofs.WholePlan.{turn_law}
use Rattle.vx_tie.proofs.laws.turns_lead_to_entrances.Goals as goal

pub returns : goal.returns
returns c = turn_law
