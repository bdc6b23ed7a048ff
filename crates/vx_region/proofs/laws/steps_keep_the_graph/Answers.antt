use Rattle.vx_region.proofs.Steps.{step_keeps}
use Rattle.vx_region.proofs.laws.steps_keep_the_graph.Goals as goal

pub returns : goal.returns
returns c = step_keeps c.assigned_operations_stand.ensures
