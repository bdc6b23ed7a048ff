use Rattle.vx_bug.proofs.FirstCycle.{first_is_free_law}
use Rattle.vx_bug.proofs.laws.first_is_free_law.Goals as goal

pub returns : goal.returns
returns c = first_is_free_law
