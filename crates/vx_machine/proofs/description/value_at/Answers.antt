use Rattle.toml.proofs.Views.{table_get}
use Rattle.vx_machine.proofs.description.value_at.Goals as goal

pub returns : goal.returns
returns c = rw (← c.field_name.ensures) (table_get c.get.result c.field_name.result.now c.args.table.now.entries c.get.ensures.value)
