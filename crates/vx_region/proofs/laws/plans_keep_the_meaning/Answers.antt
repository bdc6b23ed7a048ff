use Rattle.vx_region.proofs.OneStep.{plan_keeps}
use Rattle.vx_region.proofs.PlansFit.{plan_law}
use Rattle.vx_region.proofs.laws.plans_keep_the_meaning.Goals as goal

-- src/laws.rt:16:1
pub returns-clause-compensated : goal.returns-clause-compensated
returns-clause-compensated c = plan_law c.assigned_operations_stand.ensures

-- src/laws.rt:16:1
pub returns-clause-meaning : goal.returns-clause-meaning
returns-clause-meaning c = plan_keeps c.assigned_operations_stand.ensures
