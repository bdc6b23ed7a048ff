use Rattle.std.proofs.Common.{arith}
use Rattle.toml.specs.View.{table_view}
use Rattle.vx_machine.proofs.Ranges.{few_branches}
use Rattle.vx_machine.proofs.description.branches_of.Goals as goal

pub overflow_cast-result : goal.overflow_cast-result
overflow_cast-result c =
    let few = few_branches (table_view c.args.table.now) c.requires in
    let is = c.branches_at.ensures in
    omega (arith, few, is)
