use Rattle.std.proofs.Common.{inl, inr}
use Rattle.toml.specs.View.{table_view}
use Rattle.vx_machine.proofs.Views.{table_read, table_refused}
use Rattle.vx_machine.proofs.description.read_table.Goals as goal

pub returns-in-Ok-clause-ok : goal.returns-in-Ok-clause-ok
returns-in-Ok-clause-ok c = table_read c.args.bytes.now (table_view c.in-Ok.table) c.in-Ok.ensures.ok

pub returns-in-Err-clause-err : goal.returns-in-Err-clause-err
returns-in-Err-clause-err c =
    elim c.fault_of_reader.ensures [
      | inl memory ↦ inl memory
      | inr (is, not_memory) ↦ inr (is, table_refused c.args.bytes.now (c.in-Err.ensures.refused not_memory))
    ]
