use Rattle.std.proofs.Common.{arith}
use Rattle.toml.specs.View.{table_view}
use Rattle.vx_machine.proofs.Ranges.{small_at}
use Rattle.vx_machine.proofs.description.number_of.Goals as goal

pub overflow_cast-result : goal.overflow_cast-result
overflow_cast-result c =
    let small = small_at (table_view c.args.table.now) c.args.field c.requires.no_fault c.requires.is_field in
    let is = c.number_at.ensures.exact in
    omega (arith, small, is)
