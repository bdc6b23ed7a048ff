use Rattle.vx_region.proofs.PlansFit.{plans_fit}
use Rattle.vx_region.proofs.laws.plans_fit.Goals as goal

pub returns : goal.returns
returns c = plans_fit c.assigned_operations_stand.ensures
