use Rattle.vx_region.proofs.Steps.{all_keep}
use Rattle.vx_region.proofs.laws.all_steps_keep_the_graph.Goals as goal

pub returns : goal.returns
returns c = all_keep c.assigned_operations_stand.ensures
