use Rattle.vx_region.proofs.Falls.{plans_grow, measure_falls, cap_is_kept, steps_end, enough_steps, nodes_keep_within}
use Rattle.vx_region.proofs.laws.steps_end.Goals as goal

pub returns-clause-plans : goal.returns-clause-plans
returns-clause-plans c = plans_grow c.assigned_operations_stand.ensures

pub returns-clause-falls : goal.returns-clause-falls
returns-clause-falls c = measure_falls

pub returns-clause-kept : goal.returns-clause-kept
returns-clause-kept c = cap_is_kept

pub returns-clause-end : goal.returns-clause-end
returns-clause-end c = steps_end

pub returns-clause-enough : goal.returns-clause-enough
returns-clause-enough c = enough_steps

pub returns-clause-nodes : goal.returns-clause-nodes
returns-clause-nodes c = nodes_keep_within
