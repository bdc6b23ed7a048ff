use Rattle.vx_tie.proofs.Planned.{planned_law}
use Rattle.vx_tie.proofs.laws.planned_words_are_carried.Goals as goal

pub returns : goal.returns
returns c = planned_law
