use Rattle.vx_tie.proofs.WholePlan.{plan_law}
use Rattle.vx_tie.proofs.laws.finished_programs_carry_their_plan.Goals as goal

pub returns : goal.returns
returns c = plan_law
