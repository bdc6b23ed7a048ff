use Rattle.std.proofs.Common.{◌≡◌, drop}
use Rattle.toml.specs.View.{table_view}
use Rattle.vx_machine.specs.Descriptions.{first_fault}
use Rattle.vx_machine.proofs.description.first_fault.Given as goal

abbrev pub invariant-loop-field : goal.invariant-loop-field
invariant-loop-field l = first_fault (table_view l.table) l.fields ≡ first_fault (table_view l.table) (drop l.field-index l.fields)
